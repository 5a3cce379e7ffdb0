use Rattle.std.proofs.Common.{◌≡◌, ◌++◌, [], List, map, true, sym, ap, ◌∙◌, subst}
use Rattle.iv_lines.specs.Ordered.{AreInOrder}
use Rattle.iv_track.specs.Tracked.{is_from}
use Rattle.iv_track.specs.Regions.{hits}
use Rattle.iv_track.proofs.RegionLemmas.{hit_not, hits_beyond, from_apart}
use Rattle.iv_pair.proofs.hits.HitsIterator.next.Goals as goal

pub returns-then-is_from-clause-steps : goal.returns-then-is_from-clause-steps
returns-then-is_from-clause-steps g c =
    let i = c.loop-next.self-inside in
    let left = g.W.RecordWalk.left i.walk in
    let seen = c.in-Some.ensures.next in
    let r = seen.0 in
    let others = seen.1 in
    let from : is_from i.seq i.stop r ≡ true = sym (c.is_from.ensures r seen.3) ∙ c.if-is_from.true in
    let none : hits left i.seq i.start i.stop ≡ []
    = hit_not left others r i.seq i.start i.stop seen.2 (from_apart i.seq i.start i.stop r from)
    ∙ hits_beyond i.seq i.start i.stop r others (subst AreInOrder seen.2 c.loop-next.invariant.ordered) from in (
      sym c.loop-next.invariant.same ∙ none,
      ap (λ (l : List _). map g.W.Record.BedRecord.as_record l ++ hits left i.seq i.start i.stop) c.loop-next.invariant.carried ∙ none,
    )
