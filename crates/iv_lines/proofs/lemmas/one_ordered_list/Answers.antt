use Rattle.iv_lines.proofs.OrderedLemmas.{ordered-in_order, ordered-copies, rows-alone}
use Rattle.iv_lines.proofs.lemmas.one_ordered_list.Goals as goal

pub returns-clause-in_order : goal.returns-clause-in_order
returns-clause-in_order c = ordered-in_order

pub returns-clause-same : goal.returns-clause-same
returns-clause-same c = ordered-copies

pub returns-clause-alone : goal.returns-clause-alone
returns-clause-alone c = rows-alone
