use Rattle.iv_text.proofs.CellLemmas.{cell-before}
use Rattle.iv_text.proofs.record_reader.count_cell.Goals as goal

pub returns-clause-cell : goal.returns-clause-cell
returns-clause-cell c = (cell-before c.args.text.now c.if-text-lt16.false c.if-ends-eq0.false).0

pub returns-clause-within : goal.returns-clause-within
returns-clause-within c = (cell-before c.args.text.now c.if-text-lt16.false c.if-ends-eq0.false).1
