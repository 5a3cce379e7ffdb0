use Rattle.std.proofs.Common.{◌≡◌, length}
use Rattle.std.specs.List.Sorted.{IsPermutation}
use Rattle.iv_places.proofs.order.order_neighbors.Given as goal

abbrev pub invariant-loop-index : goal.invariant-loop-index
invariant-loop-index g l = record {
  permutation : IsPermutation l.fn.items l.items;
  len : length l.items ≡ length l.fn.items;
}
