use Rattle.std.proofs.Common.{◌≡◌, ◌++◌, [], List, map, length, true, sym, ap, ◌∙◌, subst, eqb-true}
use Rattle.std.proofs.lemmas.List.{nil_from_length}
use Rattle.iv_lines.specs.Ordered.{AreInOrder}
use Rattle.iv_lines.specs.RecordValue.{RecordValue}
use Rattle.iv_track.specs.Tracked.{is_from}
use Rattle.iv_track.specs.Regions.{hits}
use Rattle.iv_track.proofs.RegionLemmas.{hit_not, hits_beyond, from_apart}
use Rattle.iv_pair.specs.Inside.HitFinder.{Finding}
use Rattle.iv_pair.proofs.hit_finder.HitFinder.has_none.Goals.{in-Some, in-None}
use Rattle.iv_pair.proofs.hit_finder.HitFinder.has_none.Goals as goal

pub returns-clause-none : goal.returns-clause-none
returns-clause-none g c = λ plain.
    let i = c.self.inside in
    let value = g.W.Record.BedRecord.as_record in
    let left = g.W.RecordWalk.left i.walk in
    let carried : i.carried.items ≡ [] = nil_from_length i.carried.items (ap (λ (l : List _). length l) (sym c.as_slice.ensures.value) ∙ eqb-true _ _ (sym c.is_empty.ensures ∙ c.if-not-is_empty.false)) in
    let found : c.args.self.now.found ≡ hits left i.seq i.start i.stop
    = sym (ap (λ (f : Finding). f.found) c.self.view_is) ∙ ap (λ (l : List _). map value l ++ hits left i.seq i.start i.stop) carried in
    found ∙ elim c.match-next_interval.branch [
      | in-Some w ↦
          let seen = w.in-Some.ensures.next in
          let from : is_from i.seq i.stop seen.0 ≡ true = sym (w.is_from.ensures seen.0 seen.3) ∙ sym w.result-is ∙ plain in
          hit_not left seen.1 seen.0 i.seq i.start i.stop seen.2 (from_apart i.seq i.start i.stop seen.0 from)
          ∙ hits_beyond i.seq i.start i.stop seen.0 seen.1 (subst AreInOrder seen.2 c.self.invariant.ahead_ordered) from
      | in-None w ↦ ap (λ (l : List RecordValue). hits l i.seq i.start i.stop) w.in-None.ensures.next
    ]
