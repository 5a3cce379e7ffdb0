use Rattle.std.proofs.Common.{◌≡◌, ◌∙◌, ap, sym, subst, rules}
use Rattle.std.specs.Cmp.Lexicographic.{slice_cmp}
use Rattle.std.specs.Ordering.{nat_cmp}
use Rattle.iv_lines.specs.Ordered.{InOrder}
use Rattle.iv_cover.specs.Summaries.{different}
use Rattle.iv_cover.proofs.DistinctLemmas.{sorted-rise, sorted-by-bytes, different-moved}
use Rattle.iv_cover.proofs.summaries.put_distinct.Goals as goal

pub put_sorted-requires : goal.put_sorted-requires
put_sorted-requires g c =
    subst (InOrder (slice_cmp nat_cmp)) (sym c.deref.ensures.value)
    (sorted-rise c.sort_unstable_by.new.self.items (sorted-by-bytes c.sort_unstable_by.new.self.items c.sort_unstable_by.ensures.sorted (λ a r f' k. search rules)))

pub returns-clause-text : goal.returns-clause-text
returns-clause-text g c =
    let same : different c.deref.result.now ≡ different c.fill.new.room.items
    = ap different c.deref.ensures.value ∙ different-moved c.fill.new.room.items c.sort_unstable_by.new.self.items c.sort_unstable_by.ensures.permutation in
    rw (same ∙ ap different c.fill.ensures.values) at c.put_sorted.ensures
