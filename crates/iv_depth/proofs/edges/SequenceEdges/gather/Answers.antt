use Rattle.std.proofs.Common.{◌≡◌, ◌∙◌, ℕ, List, ap, map, filter, nat_lt, subst}
use Rattle.std.proofs.lemmas.List.{with_items_is}
use Rattle.std.proofs.lemmas.List.Sorted.{IsPermutation-trans}
use Rattle.std.specs.List.Sorted.{IsPermutation}
use Rattle.iv_lines.specs.CoveredPositions.{on}
use Rattle.iv_lines.specs.RecordValue.{RecordValue}
use Rattle.iv_cover.specs.Blocks.{start_of, stop_of}
use Rattle.iv_depth.specs.Inside.SequenceEdges.{Gathered}
use Rattle.iv_depth.proofs.OrderLemmas.{AreStopsOf-sorted}
use Rattle.iv_depth.proofs.edges.SequenceEdges.gather.Goals as goal

pub returns : goal.returns
returns g c =
    let seq = c.args.seq in
    let old = ap (λ (s : Gathered). s.left) c.self.view_is in
    let stops = c.self-2.inside.stops in
    let near = c.order_neighbors.new.items in
    let sorted = c.sort_unstable.new.self.items in
    let first : IsPermutation stops.items near = rw c.as_mut_slice.ensures.value at c.order_neighbors.ensures.permutation in
    let second = subst (λ (l : List ℕ). IsPermutation l sorted) (with_items_is stops near (c.order_neighbors.ensures.len ∙ c.as_mut_slice.ensures.len)) c.sort_unstable.ensures.permutation in
    let stops_are : stops.items ≡ map stop_of (on seq c.args.self.now.left)
    = ap (λ (s : Gathered). s.stops) c.self-2.view_is ∙ c.take_records.ensures.stops ∙ ap (λ (l : List RecordValue). map stop_of (on seq l)) old in
    record {
      later = ap (λ (s : Gathered). s.left) c.self-2.view_is ∙ c.take_records.ensures.later ∙ ap (filter (λ r. nat_lt seq r.seq)) old;
      starts = ap (λ (s : Gathered). s.starts) c.self-2.view_is ∙ c.take_records.ensures.starts ∙ ap (λ (l : List RecordValue). map start_of (on seq l)) old;
      stops = AreStopsOf-sorted (on seq c.args.self.now.left) sorted
          (subst (λ (l : List ℕ). IsPermutation l sorted) stops_are (IsPermutation-trans stops.items near sorted first second)) c.sort_unstable.ensures.sorted;
    }
