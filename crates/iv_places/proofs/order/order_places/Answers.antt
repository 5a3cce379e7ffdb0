use Rattle.std.proofs.lemmas.List.Sorted.{IsPermutation-trans}
use Rattle.iv_places.proofs.order.order_places.Goals as goal

pub returns-then-order_ties : goal.returns-then-order_ties
returns-then-order_ties g c = IsPermutation-trans _ _ _ (IsPermutation-trans _ _ _ c.order_ties.ensures c.sort_unstable_by.ensures.permutation) c.order_ties-2.ensures

pub returns : goal.returns
returns g c =
    IsPermutation-trans _ _ _ (IsPermutation-trans _ _ _ (IsPermutation-trans _ _ _ c.order_ties.ensures c.sort_unstable_by.ensures.permutation) c.order_ties-2.ensures)
    c.sort_by_prefix_keys.ensures
