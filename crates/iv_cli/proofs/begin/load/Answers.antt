use Rattle.std.specs.Option.{option_copied, option_map}
use Rattle.std.proofs.lemmas.Result.{IfOk-weaker, err_from_is_err_and}
use Rattle.iv_cli.proofs.LoadLemmas.{begins, begins-not}
use Rattle.iv_cli.proofs.begin.load.Goals as goal

pub returns-in_err-files-clause-err : goal.returns-in_err-files-clause-err
returns-in_err-files-clause-err g c =
    let inputs = c.args.inputs.now in
    let p = err_from_is_err_and c.from_residual.result c.from_residual.ensures.1 in
    rw (p.1, p.2) (begins-not c.args.plan.now.width inputs.sizes.now inputs.first.now (option_copied inputs.other) (option_map (λ text. text.items) c.args.bases) c.args.limit _
    (rw c.in_err-files.was at c.of_inputs.ensures.says))

pub returns-clause-ok : goal.returns-clause-ok
returns-clause-ok g c =
    let inputs = c.args.inputs.now in
    let files = c.in_ok-files in
    IfOk-weaker c.begin_session.result _ _ (λ s is. begins c.args.plan.now.width inputs.sizes.now inputs.first.now (option_copied inputs.other) (option_map (λ text. text.items) c.args.bases) c.args.limit
    files.files s (rw files.was at c.of_inputs.ensures.says) is) c.begin_session.ensures.ok
