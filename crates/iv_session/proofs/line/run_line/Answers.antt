use Rattle.iv_session.proofs.RunLemmas.{ran-done, ran-fault}
use Rattle.iv_session.proofs.line.run_line.Goals as goal

pub returns-in-Ok : goal.returns-in-Ok
returns-in-Ok g c = ran-done _ c.args.line.now _ _ _ _ _ c.in-Ok.ensures

pub returns-in-Err : goal.returns-in-Err
returns-in-Err g c = ran-fault _ c.args.line.now _ _ _ _ _ _ c.in-Err.fault c.report.result c.in-Err.ensures c.report.ensures
