use Rattle.std.proofs.Common.{◌≡◌, ℕ, ◌<◌, ◌-◌, ◌∙◌, sym, ap, arith, List, Some, subst}
use Rattle.std.specs.Prelude.{unwrap_or, slice_index_or, slice_set}
use Rattle.iv_lines.specs.RecordValue.{RecordValue, record_cmp, records_total}
use Rattle.iv_ledger.specs.Entries.{value_at}
use Rattle.iv_lines.specs.Ordered.{AreInOrder, copies}
use Rattle.iv_track.specs.Tracked.{Tracked, removed}
use Rattle.iv_track.specs.Inside.Tracked.{IsTrack}
use Rattle.iv_track.specs.Copies.{expanded}
use Rattle.iv_track.specs.Inside.LengthClasses.{AreClasses, length_class}
use Rattle.iv_track.proofs.ClassLemmas.{classes-removed, classes-some}
use Rattle.iv_track.proofs.Counts.{in_order-expanded}
use Rattle.iv_track.proofs.TrackLemmas.{count_here, found, count-pos, len-pos, IsLowered, lowered_by_take, lowered_by_set, lowered_track, set_gives}
use Rattle.iv_track.proofs.track.Track.remove.Given as given
use Rattle.iv_track.proofs.track.Track.remove.Goals as goal
use Rattle.iv_track.proofs.track.Track.remove.Goals.{then-count-eq1, else-count-eq1}

pub returns-in_default-clause-why : goal.returns-in_default-clause-why
returns-in_default-clause-why g c =
    let i = c.self.inside in
    ap (λ (t : Tracked). copies t.records c.args.feature.now) (sym c.self.view_is)
    ∙ count_here i.ledger i.len i.width i.limit c.args.feature.now c.self.invariant.track
    ∙ ap (λ o. unwrap_or o 0) (sym (c.copied.ensures ∙ c.get.ensures.value) ∙ c.in_default.is)

pub overflow_sub-count : goal.overflow_sub-count
overflow_sub-count g c =
    let i = c.self.inside in
    count-pos i.ledger i.ledger i.len i.width i.limit c.args.feature.now c.self.invariant.track c.in-Some.count (sym (c.copied.ensures ∙ c.get.ensures.value) ∙ c.in-Some.is)

-- after either way the map has one copy less, and the other fields are as before
changed : (g : given.Over) (c : goal.Joined-count-eq1 g) → IsLowered c.self.inside.ledger c.if-count-eq1.self-inside.ledger c.args.feature.now c.self.inside.width
    × (c.if-count-eq1.self-inside.len ≡ c.self.inside.len)
    × (c.if-count-eq1.self-inside.width ≡ c.self.inside.width)
    × (c.if-count-eq1.self-inside.limit ≡ c.self.inside.limit)
    × (c.if-count-eq1.self-inside.lengths ≡ c.remove.new.self)
changed g c =
    let i = c.self.inside in
    let n = c.in-Some.count in
    let count : value_at record_cmp i.ledger c.args.feature.now ≡ Some n = sym (c.copied.ensures ∙ c.get.ensures.value) ∙ c.in-Some.is in
    elim c.if-count-eq1.branch [
      | then-count-eq1 w ↦
          let is = w.self-inside-is in (
            subst (λ gs. IsLowered i.ledger gs c.args.feature.now i.width) (sym (ap (λ s. s.ledger) is)) (lowered_by_take i.ledger w.take.new.self i.len i.width i.limit c.args.feature.now c.self.invariant.track n count w.if-count-eq1.true w.take.ensures.rest w.take.ensures.ordered),
            ap (λ s. s.len) is,
            ap (λ s. s.width) is,
            ap (λ s. s.limit) is,
            ap (λ s. s.lengths) is,
          )
      | else-count-eq1 w ↦
          let is = w.self-inside-is in
          let e = w.set.ensures in (
            subst (λ gs. IsLowered i.ledger gs c.args.feature.now i.width) (sym (ap (λ s. s.ledger) is)) (lowered_by_set i.ledger w.set.new.self i.len i.width i.limit c.args.feature.now c.self.invariant.track n count w.if-count-eq1.false (set_gives w.set.result _ n _ _ count e.written e.absent) e.ordered),
            ap (λ s. s.len) is,
            ap (λ s. s.width) is,
            ap (λ s. s.limit) is,
            ap (λ s. s.lengths) is,
          )
    ]

pub overflow_sub-self : goal.overflow_sub-self
overflow_sub-self g c =
    let i = c.self.inside in
    let count : value_at record_cmp i.ledger c.args.feature.now ≡ Some c.in-Some.count = sym (c.copied.ensures ∙ c.get.ensures.value) ∙ c.in-Some.is in
    omega (arith, len-pos i.ledger i.ledger i.len i.width i.limit c.args.feature.now c.self.invariant.track c.in-Some.count count, (changed g c).1)

pub invariant_of-self : goal.invariant_of-self
invariant_of-self g c =
    let i = c.self.inside in
    let j = c.if-count-eq1.self-inside in
    let count : value_at record_cmp i.ledger c.args.feature.now ≡ Some c.in-Some.count = sym (c.copied.ensures ∙ c.get.ensures.value) ∙ c.in-Some.is in
    let d = changed g c.before in
    let low = lowered_track i.ledger j.ledger i.len i.width i.limit c.args.feature.now c.self.invariant.track c.in-Some.count count d.0 in
    record {
      track = subst (λ l. IsTrack j.ledger (l - 1) j.width j.limit) (sym d.1)
          (subst (λ w. IsTrack j.ledger (i.len - 1) w j.limit) (sym d.2)
          (subst (λ m. IsTrack j.ledger (i.len - 1) i.width m) (sym d.3) low));
      lengths =
          let feature = c.args.feature.now in
          let within : length_class feature < 33 = omega (arith, c.length_class.ensures.is, c.length_class.ensures.within) in
          let order = in_order-expanded record_cmp records_total i.ledger c.self.invariant.track.ordered in
          let there = found i.ledger i.ledger i.len i.width i.limit feature c.self.invariant.track c.in-Some.count count in
          subst (λ (l : List ℕ). AreClasses l (expanded j.ledger))
          (sym (d.4 ∙ c.remove.ensures ∙ ap (λ k. slice_set i.lengths k (slice_index_or i.lengths k 0 - 1)) c.length_class.ensures.is))
          (subst (AreClasses (slice_set i.lengths (length_class feature) (slice_index_or i.lengths (length_class feature) 0 - 1))) (sym d.0.records) (classes-removed i.lengths (expanded i.ledger) feature c.self.invariant.lengths order there within));
    }

pub returns-clause-ok : goal.returns-clause-ok
returns-clause-ok g c =
    let d = changed g c.before in
    let with : List RecordValue → ℕ → ℕ → Tracked = λ records width limit. record { records = records; width = width; limit = limit } in
    (λ k. with (d.0.records k) (d.2 k) (d.3 k))
    ∙ ap (λ (t : Tracked). record t { records = removed t.records c.args.feature.now }) c.self.view_is

pub returns-clause-there : goal.returns-clause-there
returns-clause-there g c =
    let i = c.self.inside in
    let count : value_at record_cmp i.ledger c.args.feature.now ≡ Some c.in-Some.count = sym (c.copied.ensures ∙ c.get.ensures.value) ∙ c.in-Some.is in
    subst (λ (t : Tracked). 0 < copies t.records c.args.feature.now) c.self.view_is
    (found i.ledger i.ledger i.len i.width i.limit c.args.feature.now c.self.invariant.track c.in-Some.count count)

pub returns-in_default-clause-was_ordered : goal.returns-in_default-clause-was_ordered
returns-in_default-clause-was_ordered g c =
    subst (λ (t : Tracked). AreInOrder t.records) c.self.view_is (in_order-expanded record_cmp records_total c.self.inside.ledger c.self.invariant.track.ordered)

pub returns-clause-was_ordered : goal.returns-clause-was_ordered
returns-clause-was_ordered g c =
    subst (λ (t : Tracked). AreInOrder t.records) c.self.view_is (in_order-expanded record_cmp records_total c.self.inside.ledger c.self.invariant.track.ordered)

pub remove-requires-clause-some : goal.remove-requires-clause-some
remove-requires-clause-some g c =
    let i = c.self.inside in
    let feature = c.args.feature.now in
    let count : value_at record_cmp i.ledger feature ≡ Some c.in-Some.count = sym (c.copied.ensures ∙ c.get.ensures.value) ∙ c.in-Some.is in
    subst (λ k. 0 < slice_index_or i.lengths k 0) (sym c.length_class.ensures.is)
    (classes-some i.lengths (expanded i.ledger) feature c.self.invariant.lengths (in_order-expanded record_cmp records_total i.ledger c.self.invariant.track.ordered)
    (found i.ledger i.ledger i.len i.width i.limit feature c.self.invariant.track c.in-Some.count count))
