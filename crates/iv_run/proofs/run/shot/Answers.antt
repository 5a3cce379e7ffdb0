use Rattle.std.specs.Option.{option_copied, option_map}
use Rattle.std.proofs.Common.{None}
use Rattle.std.proofs.lemmas.Result.{err_from_is_err_and}
use Rattle.iv_run.proofs.ShotLemmas.{shows-damage}
use Rattle.iv_run.proofs.WantedLemmas.{any-wanted}
use Rattle.iv_run.proofs.run.shot.Goals as goal

pub returns-in_err-files : goal.returns-in_err-files
returns-in_err-files g c =
    let plan = c.args.plan.now in
    let inputs = c.args.inputs.now in
    let p = err_from_is_err_and c.from_residual.result c.from_residual.ensures.1 in
    rw (p.1, p.2) (shows-damage plan.width inputs.sizes.now inputs.first.now (option_copied inputs.other) (option_map (λ text. text.items) c.args.bases) c.args.limit plan.view _ _ c.in_err-files.ensures.says)

pub returns : goal.returns
returns g c =
    let inputs = c.args.inputs.now in
    let files = c.in_ok-files in
    c.shot_of_held.ensures c.columns_for.result None inputs.sizes.now inputs.first.now (option_copied inputs.other) (option_map (λ text. text.items) c.args.bases) c.args.limit c.columns_for.ensures files.ensures.says
    (any-wanted files.files.first.records)
