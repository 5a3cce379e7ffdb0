use Rattle.std.proofs.Common.{sym, ◌∙◌, subst}
use Rattle.iv_lines.specs.Ordered.{AreInOrder}
use Rattle.iv_track.proofs.RegionLemmas.{hit_not, hits_beyond}
use Rattle.iv_track.proofs.region.TrackHits.next.Goals as goal

pub returns-then-ends_before-clause-feature : goal.returns-then-ends_before-clause-feature
returns-then-ends_before-clause-feature g c =
    let i = c.loop-feature.self-inside in
    let at = i.at in
    let feature = c.in-Some.feature in
    let rest = c.next.new.self in
    let none = hits_beyond at.seq at.start at.stop feature rest (subst AreInOrder c.in-Some.ensures.feature c.loop-feature.invariant.ordered) (sym c.ends_before.ensures ∙ c.if-ends_before.true) in
    (sym c.loop-feature.invariant.same ∙ hit_not i.records rest feature at.seq at.start at.stop c.in-Some.ensures.feature (sym c.overlaps.ensures ∙ c.if-overlaps.false) ∙ none, none)
