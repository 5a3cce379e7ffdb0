use Rattle.iv_session.proofs.ColumnLemmas.{IsCut}
use Rattle.iv_session.proofs.request.split_columns.Given as goal

abbrev pub invariant-loop : goal.invariant-loop
invariant-loop l = IsCut l.text l.rest l.counter
