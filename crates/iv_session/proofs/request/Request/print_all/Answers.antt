use Rattle.std.proofs.Common.{sym}
use Rattle.iv_session.proofs.ColumnLemmas.{some-field, none-field}
use Rattle.iv_session.proofs.request.Request.print_all.Goals as goal

pub returns-then-is_some-clause-value : goal.returns-then-is_some-clause-value
returns-then-is_some-clause-value c = some-field c.args.fields (sym c.if-is_some.ensures)

pub returns-clause-value : goal.returns-clause-value
returns-clause-value c = none-field c.args.fields (sym c.if-is_some.ensures)
