-- Which records a walk over the hits of a region passes, and which it gives.
use Rattle.std.proofs.Common.{◌≡◌, ℕ, ◌+◌, ◌-◌, ◌*◌, ◌<◌, ◌≤◌, ◌&&◌, ◌==◌, nat_lt, inl, inr, Bool, true, false, not, cond, List, [], ◌∷◌, refl, sym, ap, ◌∙◌, subst, arith, length, eq-eqb}
use Rattle.std.specs.Prelude.{All, filter}
use Rattle.std.proofs.lemmas.Bool.{and_parts, and_from, lt-ltb, ltb-true}
use Rattle.std.proofs.lemmas.List.Elements.{All-nil, All-cons}
use Rattle.std.proofs.lemmas.List.Sums.{length-filter, count_by-le-length}
use Rattle.std.proofs.lemmas.Map.Views.{exact_unsigned_eq}
use Rattle.iv_lines.specs.Ordered.{AreInOrder}
use Rattle.iv_lines.specs.RecordValue.{RecordValue}
use Rattle.iv_lines.proofs.ListLemmas.{Mem, all-mem, filter-filter, filter-weaker}
use Rattle.iv_track.specs.declared.region.Region.{Region}
use Rattle.iv_track.specs.Regions.{overlaps, hits, longest, near}
use Rattle.iv_track.specs.Tracked.{is_from}
use Rattle.iv_track.specs.Inside.Tracked.{starting_before}
use Rattle.iv_track.proofs.PlaceLemmas.{le_pair, pair_le, filter-implied, from_all, not_from}

pub overlaps_parts : (seq start stop : ℕ) (q : RecordValue) → overlaps seq start stop q ≡ true → (q.seq ≡ seq) × (q.start < stop) × (start < q.stop)
overlaps_parts seq start stop q h =
    let a = and_parts _ _ h in
    let b = and_parts _ _ a.1 in
    (exact_unsigned_eq q.seq seq a.0, ltb-true q.start stop b.0, ltb-true start q.stop b.1)

pub overlaps_from : (seq start stop : ℕ) (q : RecordValue) → q.seq ≡ seq → q.start < stop → start < q.stop → overlaps seq start stop q ≡ true
overlaps_from seq start stop q on low high = rw (eq-eqb q.seq seq on, lt-ltb q.start stop low, lt-ltb start q.stop high) refl

-- ---- hit by hit

-- a record from the stop on shares no position
pub from_apart : (seq start stop : ℕ) (q : RecordValue) → is_from seq stop q ≡ true → overlaps seq start stop q ≡ false
from_apart seq start stop q h = go (overlaps seq start stop q) refl
  where
    go : (b : Bool) → overlaps seq start stop q ≡ b → b ≡ false
    go false e = refl
    go true e =
        let parts = overlaps_parts seq start stop q e in
        let same : seq ≡ q.seq = sym parts.0 in
        let up : stop ≤ q.start = (le_pair seq q.seq stop q.start h).1 same in
        let low : q.start < stop = parts.1 in
        absurd (omega arith)

none_from : (seq start stop : ℕ) (records : List RecordValue) → ((q : RecordValue) → Mem q records → is_from seq stop q ≡ true) → hits records seq start stop ≡ []
none_from seq start stop [] all = refl
none_from seq start stop (q ∷ records) all =
    ap (λ b. cond b (q ∷ hits records seq start stop) (hits records seq start stop)) (from_apart seq start stop q (all q (inl refl)))
    ∙ none_from seq start stop records (λ r m. all r (inr m))

-- from a record on that begins at the stop or after it there are none
pub hits_beyond : (seq start stop : ℕ) (r : RecordValue) (records : List RecordValue) → AreInOrder (r ∷ records) → is_from seq stop r ≡ true → hits records seq start stop ≡ []
hits_beyond seq start stop r records o h = none_from seq start stop records (λ q m. from_all seq stop r records o h q (inr m))

pub hit_not : (records rest : List RecordValue) (r : RecordValue) (seq start stop : ℕ) → records ≡ r ∷ rest → overlaps seq start stop r ≡ false → hits records seq start stop ≡ hits rest seq start stop
hit_not records rest r seq start stop e is = ap (λ xs. hits xs seq start stop) e ∙ ap (λ b. cond b (r ∷ hits rest seq start stop) (hits rest seq start stop)) is

-- ---- how long records are

-- none is longer than the longest
pub all-longest : (records : List RecordValue) → All (λ r. r.stop ≤ r.start + longest records) records
all-longest records = within records (longest records) (omega arith)
  where
    within : (records : List RecordValue) (n : ℕ) → longest records ≤ n → All (λ r. r.stop ≤ r.start + n) records
    within [] n h = All-nil (λ r. r.stop ≤ r.start + n)
    within (r ∷ records) n h = All-cons (λ r. r.stop ≤ r.start + n) r records (omega arith) (within records n (omega arith))

-- ---- where a walk begins

-- if no record is longer than n, the hits are among the records from the start less n on
pub hits-walked : (records : List RecordValue) (at : Region) (from n : ℕ) → All (λ r. r.stop ≤ r.start + n) records → from ≤ at.start + 1 - n
    → hits (filter (is_from at.seq from) records) at.seq at.start at.stop ≡ hits records at.seq at.start at.stop
hits-walked records at from n up low = filter-implied (overlaps at.seq at.start at.stop) (is_from at.seq from) records (λ q m is.
    let parts = overlaps_parts at.seq at.start at.stop q is in
    let here : q.seq ≡ at.seq = parts.0 in
    let past : at.start < q.stop = parts.2 in
    let long : q.stop ≤ q.start + n = all-mem (λ (r : RecordValue). r.stop ≤ r.start + n) records up q m in
    pair_le at.seq q.seq from q.start (omega arith) (λ _. omega (arith, past, long, low)))

-- the records that such a walk may pass are near the region
walked-near : (at : Region) (from most : ℕ) (q : RecordValue) → at.start + 1 ≤ from + most → (is_from at.seq from q && not (is_from at.seq at.stop q)) ≡ true
    → ((q.seq == at.seq) && (nat_lt q.start at.stop && nat_lt at.start (q.start + most))) ≡ true
walked-near at from most q low h =
    let parts = and_parts (is_from at.seq from q) (not (is_from at.seq at.stop q)) h in
    let place = le_pair at.seq q.seq from q.start parts.0 in
    let up : at.seq ≤ q.seq = place.0 in
    let before = not_from at.seq at.stop q parts.1 in
    let same : q.seq ≡ at.seq = omega (arith, before.0) in
    let begun : from ≤ q.start = place.1 (sym same) in
    and_from _ _ (eq-eqb q.seq at.seq same) (and_from _ _ (lt-ltb q.start at.stop (before.1 same)) (lt-ltb at.start (q.start + most) (omega arith)))

pub passes-near : (records : List RecordValue) (at : Region) (from : ℕ) → at.start + 1 ≤ from + 2 * longest records
    → length (starting_before at (filter (is_from at.seq from) records)) ≤ length (near at records)
passes-near records at from low =
    let weaker = filter-weaker (λ q. is_from at.seq from q && not (is_from at.seq at.stop q)) (λ q. (q.seq == at.seq) && (nat_lt q.start at.stop && nat_lt at.start (q.start + 2 * longest records))) records
    (λ q m is. walked-near at from (2 * longest records) q low is) in
    subst (λ l. length l ≤ length (near at records)) (sym (filter-filter (λ q. not (is_from at.seq at.stop q)) (is_from at.seq from) records)) weaker

-- there are no more hits than records
pub hits-few : (records : List RecordValue) (seq start stop : ℕ) → length (hits records seq start stop) ≤ length records
hits-few records seq start stop = omega (arith, length-filter (overlaps seq start stop) records, count_by-le-length (overlaps seq start stop) records)
