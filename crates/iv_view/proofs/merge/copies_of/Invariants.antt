use Rattle.std.proofs.Common.{◌≡◌, replicate}
use Rattle.iv_view.proofs.merge.copies_of.Given as goal

abbrev pub invariant-loop : goal.invariant-loop
invariant-loop g l = l.list.items ≡ replicate l.counter l.item
