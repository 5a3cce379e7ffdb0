use Rattle.std.proofs.Common.{◌≡◌, ◌∙◌, ◌<◌, ◌++◌, List, append-nil, length, sym, ap, subst, arith}
use Rattle.std.specs.List.{AllByRecursion}
use Rattle.std.proofs.lemmas.Result.{IfOk-weaker}
use Rattle.iv_lines.specs.Bed.{Bed}
use Rattle.iv_lines.specs.Ordered.{ordered}
use Rattle.iv_lines.specs.RecordValue.{RecordValue}
use Rattle.iv_track.specs.Tracked.{Tracked}
use Rattle.iv_track.proofs.PackLemmas.{empty-is, ordered-same, width-once, widths-expanded, widths-held}
use Rattle.iv_track.proofs.TrackLemmas.{len-rows}
use Rattle.iv_track.proofs.WalkLemmas.{filter-from_first}
use Rattle.iv_track.proofs.track.Track.packed.Goals as goal

pub returns-then-self-eq0 : goal.returns-then-self-eq0
returns-then-self-eq0 g c =
    let i = c.self.inside in
    c.new.ensures
    ∙ ap (λ (records : List RecordValue). record { records = records; width = i.width; limit = i.limit }) (empty-is _ (omega (arith, len-rows i.ledger i.len i.width i.limit c.self.invariant.track, c.if-self-eq0.true)))
    ∙ c.self.view_is

pub loop-record-init : goal.loop-record-init
loop-record-init g c = ap (λ (held : Bed). held.records ++ c.walk-records.result) c.empty-places.ensures ∙ c.walk-records.ensures.records ∙ filter-from_first c.args.self.now.records

pub hold-requires : goal.hold-requires
hold-requires g c =
    let i = c.self.inside in
    let l = c.loop-record in
    let all : AllByRecursion (λ (q : RecordValue). q.width ≡ i.width) c.args.self.now.records = subst (λ (t : Tracked). AllByRecursion (λ (q : RecordValue). q.width ≡ i.width) t.records) c.self.view_is (widths-expanded i.width i.ledger c.self.invariant.track.widths) in
    widths-held i.width l.places.records c.next.new.self c.in-Some.record
    (subst (λ records. AllByRecursion (λ (q : RecordValue). q.width ≡ i.width) records) (sym l.invariant ∙ ap (λ left. l.places.records ++ left) c.in-Some.ensures.feature) all)

pub returns : goal.returns
returns g c =
    let i = c.self.inside in
    let places = c.loop-record.places in
    let held : places.records ≡ c.args.self.now.records = sym (append-nil places.records) ∙ ap (λ left. places.records ++ left) (sym c.in_default.ensures.feature.0) ∙ c.loop-record.invariant in
    let all : AllByRecursion (λ (q : RecordValue). q.width ≡ i.width) places.records = subst (λ records. AllByRecursion (λ (q : RecordValue). q.width ≡ i.width) records) (sym held) (subst (λ (t : Tracked). AllByRecursion (λ (q : RecordValue). q.width ≡ i.width) t.records) c.self.view_is (widths-expanded i.width i.ledger c.self.invariant.track.widths)) in
    let long : 0 < length places.records = omega (arith, ap length held, ap (λ (t : Tracked). length t.records) c.self.view_is, len-rows i.ledger i.len i.width i.limit c.self.invariant.track, c.if-self-eq0.false) in
    let same : places.width ≡ i.width = sym c.width-width.ensures.value ∙ width-once c.width-width.result i.width places.records long c.width-width.ensures.each all in
    IfOk-weaker c.from_places.result _ _ (λ t h.
    h
    ∙ (λ j. record { records = (ap ordered held ∙ ordered-same c.args.self.now.records c.walk-records.ensures.ordered) j; width = same j; limit = i.limit })
    ∙ (λ j. record { records = ap (λ (t : Tracked). t.records) (sym c.self.view_is) j; width = i.width; limit = i.limit })
    ∙ c.self.view_is) c.from_places.ensures
