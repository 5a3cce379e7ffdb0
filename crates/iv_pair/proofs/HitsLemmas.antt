-- Where the records are that share a position with an interval.
use Rattle.std.proofs.Common.{◌≡◌, ℕ, ◌+◌, ◌-◌, ◌<◌, ◌≤◌, ◌↔◌, Bool, true, false, cond, List, [], ◌∷◌, max, refl, arith, length, eq-eqb}
use Rattle.std.specs.Prelude.{filter}
use Rattle.std.proofs.lemmas.Bool.{and_parts, lt-ltb, ltb-true, le-leb, leb-true}
use Rattle.std.proofs.lemmas.List.Sums.{length-filter, count_by-le-length}
use Rattle.std.proofs.lemmas.Map.Views.{exact_unsigned_eq}
use Rattle.iv_lines.specs.RecordValue.{RecordValue}
use Rattle.iv_track.specs.Tracked.{is_from}
use Rattle.iv_lines.specs.CoveredPositions.{covers}
use Rattle.iv_lines.proofs.ListLemmas.{all-mem}
use Rattle.iv_track.specs.Regions.{overlaps, hits}
use Rattle.iv_pair.specs.Hits.{hits_of}
use Rattle.iv_pair.specs.Inside.Lengths.{AreUpTo}
use Rattle.iv_pair.specs.Inside.HitLines.{AllOverlap}
use Rattle.iv_track.proofs.PlaceLemmas.{pair_le, filter-implied}
use Rattle.iv_track.proofs.RegionLemmas.{overlaps_parts, overlaps_from}

pub covers_parts : (seq p : ℕ) (q : RecordValue) → covers seq p q ≡ true → (q.seq ≡ seq) × (q.start ≤ p) × (p < q.stop)
covers_parts seq p q h =
    let a = and_parts _ _ h in
    let b = and_parts _ _ a.1 in
    (exact_unsigned_eq q.seq seq a.0, leb-true q.start p b.0, ltb-true p q.stop b.1)

pub covers_from : (seq p : ℕ) (q : RecordValue) → q.seq ≡ seq → q.start ≤ p → p < q.stop → covers seq p q ≡ true
covers_from seq p q on low high = rw (eq-eqb q.seq seq on, le-leb q.start p low, lt-ltb p q.stop high) refl

pub overlap-means : (seq start stop : ℕ) (q : RecordValue) → start < stop → q.start < q.stop
    → (overlaps seq start stop q ≡ true) ↔ ((p : ℕ) × (start ≤ p) × (p < stop) × (covers seq p q ≡ true))
overlap-means seq start stop q some long = (
  λ is.
      let parts = overlaps_parts seq start stop q is in
      let before : q.start < stop = parts.1 in
      let past : start < q.stop = parts.2 in
      (max start q.start, omega arith, omega arith, covers_from seq (max start q.start) q parts.0 (omega arith) (omega arith)),
  λ at.
      let parts = covers_parts seq at.0 q at.3 in
      let low : start ≤ at.0 = at.1 in
      let high : at.0 < stop = at.2 in
      let from : q.start ≤ at.0 = parts.1 in
      let to : at.0 < q.stop = parts.2 in
      overlaps_from seq start stop q parts.0 (omega arith) (omega arith),
)

-- ---- where a search begins

-- if no record is longer than n, the hits are among the records from the start less n on
pub hits_from : (records : List RecordValue) (seq start stop from n : ℕ) → AreUpTo seq n records → from ≤ start + 1 - n → hits (filter (is_from seq from) records) seq start stop ≡ hits records seq start stop
hits_from records seq start stop from n up low = filter-implied (overlaps seq start stop) (is_from seq from) records (λ q m is.
    let parts = overlaps_parts seq start stop q is in
    let here : q.seq ≡ seq = parts.0 in
    let past : start < q.stop = parts.2 in
    let long : q.stop ≤ q.start + n = all-mem (λ (r : RecordValue). r.seq ≡ seq → r.stop ≤ r.start + n) records up q m here in
    pair_le seq q.seq from q.start (omega arith) (λ _. omega (arith, past, long, low)))

pub length-filter_le : (p : RecordValue → Bool) (records : List RecordValue) → length (filter p records) ≤ length records
length-filter_le p records = omega (arith, length-filter p records, count_by-le-length p records)

-- ---- a walk that goes on to a start

-- each hit of a record shares a position with it
pub hits-overlap : (records : List RecordValue) (a : RecordValue) → AllOverlap a (hits_of records a)
hits-overlap [] a = tt
hits-overlap (q ∷ records) a = go (hits-overlap records a) (overlaps a.seq a.start a.stop q) refl
  where
    go : AllOverlap a (hits_of records a) → (b : Bool) → overlaps a.seq a.start a.stop q ≡ b → AllOverlap a (cond b (q ∷ hits_of records a) (hits_of records a))
    go rest true is = (is, rest)
    go rest false is = rest
