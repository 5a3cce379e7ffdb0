use Rattle.std.proofs.Common.{Err}
use Rattle.iv_run.proofs.ShotLemmas.{shows-damage}
use Rattle.iv_program.proofs.program.shot_of_files.Goals as goal

pub returns-in-Ok : goal.returns-in-Ok
returns-in-Ok g c = λ texts enough. (
  c.shot_of_held.result,
  c.shot_of_held.ensures enough.which enough.wanted texts.sizes texts.first texts.other texts.bases c.args.plan.now.limit enough.columns (rw c.in-Ok.is at enough.has) (rw c.in-Ok.is at enough.bases),
  c.ending_of.ensures,
)

pub returns-in-Err : goal.returns-in-Err
returns-in-Err g c = λ texts enough.
    let plan = c.args.plan.now in
    (Err c.in-Err.fault, shows-damage plan.width texts.sizes texts.first texts.other texts.bases plan.limit plan.view _ _ (rw c.in-Err.is at enough.has), c.from.ensures)
