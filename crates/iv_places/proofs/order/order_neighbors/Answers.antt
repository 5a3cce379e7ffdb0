use Rattle.std.proofs.Common.{◌∙◌}
use Rattle.std.proofs.lemmas.List.Sorted.{IsPermutation-trans, length_permutation}
use Rattle.iv_places.proofs.order.order_neighbors.Goals as goal

pub loop-index-preserved : goal.loop-index-preserved
loop-index-preserved g c =
    let moved = c.move_forward.ensures in
    record {
      permutation = IsPermutation-trans _ _ _ c.loop-index.invariant.permutation moved;
      len = length_permutation _ _ moved ∙ c.loop-index.invariant.len;
    }

pub returns-then-not-move_forward-clause-permutation : goal.returns-then-not-move_forward-clause-permutation
returns-then-not-move_forward-clause-permutation g c = IsPermutation-trans _ _ _ c.loop-index.invariant.permutation c.move_forward.ensures
