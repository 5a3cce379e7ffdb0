use Rattle.std.proofs.Common.{◌<◌, List, ◌-◌, ap, length, length-append, subst, ℕ, arith}
use Rattle.std.specs.Prelude.{All, replicate}
use Rattle.std.specs.Map.{values_of}
use Rattle.std.proofs.lemmas.List.{length-replicate}
use Rattle.std.proofs.lemmas.List.Elements.{All-tail}
use Rattle.iv_lines.specs.RecordValue.{RecordValue}
use Rattle.iv_track.specs.Copies.{expanded}
use Rattle.iv_track.specs.Lent.{again}
use Rattle.iv_track.proofs.track_records.TrackRecords.next.Goals as goal

pub invariant_of-self-then-count-gt1 : goal.invariant_of-self-then-count-gt1
invariant_of-self-then-count-gt1 g c =
    let i = c.self.inside in
    let n = c.in_ok-feature.count.now in
    let rest = expanded c.next.new.self in (
      All-tail (λ (n : ℕ). 0 < n) _ (values_of c.next.new.self) (subst (λ es. All (λ (n : ℕ). 0 < n) (values_of es)) c.in_ok-feature.ensures.next c.self.invariant.0),
      omega (
        arith,
        c.self.invariant.1,
        length-append (again i.held) (expanded i.entries),
        ap (λ es. length (expanded es)) c.in_ok-feature.ensures.next,
        length-append (replicate n c.in_ok-feature.feature) rest,
        length-replicate n c.in_ok-feature.feature,
        length-append (replicate (n - 1) c.again.result) rest,
        length-replicate (n - 1) c.again.result,
      ),
    )

pub invariant_of-self-else-count-gt1 : goal.invariant_of-self-else-count-gt1
invariant_of-self-else-count-gt1 g c =
    let i = c.self.inside in
    let n = c.in_ok-feature.count.now in
    let held = c.next_held.new.held in
    let rest = expanded c.next.new.self in (
      All-tail (λ (n : ℕ). 0 < n) _ (values_of c.next.new.self) (subst (λ es. All (λ (n : ℕ). 0 < n) (values_of es)) c.in_ok-feature.ensures.next c.self.invariant.0),
      omega (
        arith,
        c.self.invariant.1,
        length-append (again i.held) (expanded i.entries),
        ap (λ es. length (expanded es)) c.in_ok-feature.ensures.next,
        length-append (replicate n c.in_ok-feature.feature) rest,
        length-append (again held) rest,
        ap (λ (l : List RecordValue). length l) c.in_default.ensures.1,
      ),
    )
