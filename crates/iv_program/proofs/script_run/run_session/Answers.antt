use Rattle.iv_program.proofs.RunLemmas.{all-bases}
use Rattle.iv_program.proofs.script_run.run_session.Goals as goal

pub returns-clause-ok : goal.returns-clause-ok
returns-clause-ok g c =
    let read = c.in_ok-read.ensures.ok in
    (read.0, read.1, c.run_over.ensures c.args.plan.now read.0 c.limit.ensures.value (all-bases c.args.plan.now read.0 c.in_ok-read.read read.2))
