use Rattle.std.proofs.Common.{◌∙◌, arith}
use Rattle.std.proofs.lemmas.List.Sorted.{IsPermutation-trans}
use Rattle.iv_places.proofs.order.move_forward.Goals as goal

pub loop-at-preserved : goal.loop-at-preserved
loop-at-preserved g c =
    let len = c.loop-at.invariant.len in
    let within = c.loop-at.invariant.within in
    record {
      permutation = IsPermutation-trans _ _ _ c.loop-at.invariant.permutation c.swap.ensures.permutation;
      len = c.swap.ensures.len ∙ c.loop-at.invariant.len;
      within = omega arith;
    }
