use Rattle.iv_places.proofs.SortedLemmas.{order-sorted}
use Rattle.iv_run.proofs.run.sorted_or_none.Goals as goal

pub returns-clause-order : goal.returns-clause-order
returns-clause-order g c = order-sorted c.in-Some.places c.sort.new.self c.in_ok-sort.ensures
