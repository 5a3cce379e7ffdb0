-- The number of hits of a record, from where the others begin and end.
use Rattle.std.proofs.Common.{◌≡◌, ℕ, ◌+◌, ◌<◌, ◌≤◌, inl, inr, Bool, true, false, cond, List, [], ◌∷◌, All, length, get_or, map, refl, sym, ap, subst, ◌∙◌, arith}
use Rattle.std.specs.Prelude.{count_by}
use Rattle.std.specs.Cmp.{IsTotalOrder, nat_cmp_total, on_total, then_total}
use Rattle.std.specs.List.Sorted.{IsPartitionedBy, IsPermutation, IsSorted}
use Rattle.std.specs.Ordering.{is_le, is_lt, nat_cmp, ordering_then}
use Rattle.std.specs.declared.cmp.Ordering.{Ordering}
use Rattle.std.proofs.lemmas.Bool.{cases_lt}
use Rattle.std.proofs.lemmas.Bool.Decides.{nat_tests}
use Rattle.std.proofs.lemmas.Cmp.{ranked, by_ranked}
use Rattle.std.proofs.lemmas.List.Elements.{All-from_recursion, All-head, All-tail, All-nil, All-cons, All-weaker}
use Rattle.std.proofs.lemmas.List.MinMax.{ranks_by}
use Rattle.std.proofs.lemmas.List.Sorted.{sorted_far, sum_by-IsPermutation}
use Rattle.std.proofs.lemmas.List.Sums.{sum_by-cons, length-filter}
use Rattle.iv_lines.specs.Ordered.{AreInOrder}
use Rattle.iv_lines.specs.RecordValue.{RecordValue, record_cmp}
use Rattle.iv_places.specs.Inside.Places.{HasBase, interval_in}
use Rattle.iv_lines.specs.Intervals.{interval_of}
use Rattle.iv_places.specs.declared.placed_records.Place.{Place}
use Rattle.iv_lines.specs.declared.interval.Interval.{Interval}
use Rattle.iv_track.specs.Regions.{overlaps}
use Rattle.iv_pair.specs.Hits.{hits_of}
use Rattle.iv_pair.specs.Inside.Counts.{is_before, is_up_to, begins_before, ends_by, place_before, end_by, end_of, AreEndsOf, AreStartsOf, EndsAscend}
use Rattle.iv_pair.specs.Inside.HitFinder.{IsOnward}
use Rattle.iv_pair.specs.declared.count_sweep.End.{End}
use Rattle.iv_pair.proofs.FrontLemmas.{count-implied, count-map, split_up-cons}
use Rattle.iv_lines.proofs.PrecedesLemmas.{precedes-from}

-- of two records in order the first begins no later
precedes : (x y : RecordValue) → is_le (record_cmp x y) ≡ true → IsOnward x.seq x.start y.seq y.start
precedes x y h = elim (precedes-from x y h) [
  | inl later ↦ (omega (arith, later), λ e. absurd (omega (arith, later, e)))
  | inr same ↦ (omega (arith, same.0), λ e. same.1)
]

-- each that comes later in a list in order
later-precedes : (b : RecordValue) (bs : List RecordValue) → AreInOrder (b ∷ bs) → All (λ (y : RecordValue). IsOnward b.seq b.start y.seq y.start) bs
later-precedes b bs h =
    All-weaker (λ y. is_le (record_cmp b y) ≡ true) (λ (y : RecordValue). IsOnward b.seq b.start y.seq y.start) (λ y le. precedes b y le) bs (All-from_recursion (λ y. is_le (record_cmp b y) ≡ true) bs h.0)

-- ---- one record beside another

-- b is a hit of a, or ends before a, or does neither; and it begins before a ends in the first two cases alone
one-of : (a b : RecordValue) → a.start < a.stop → b.start < b.stop
    → cond {A = ℕ} (overlaps a.seq a.start a.stop b) 1 0 + cond {A = ℕ} (ends_by a.seq a.start b) 1 0 ≡ cond {A = ℕ} (begins_before a.seq a.stop b) 1 0
one-of a b some long = grind (arith, nat_tests)

-- the number of hits: those that begin before a ends, less those that end up to where it begins
pub count-hits : (a : RecordValue) (second : List RecordValue) → a.start < a.stop → All (λ (b : RecordValue). b.start < b.stop) second
    → length (hits_of second a) + count_by (ends_by a.seq a.start) second ≡ count_by (begins_before a.seq a.stop) second
count-hits a second some long = ap (λ (n : ℕ). n + count_by (ends_by a.seq a.start) second) (length-filter (overlaps a.seq a.start a.stop) second) ∙ go second long
  where
    go : (records : List RecordValue) → All (λ (b : RecordValue). b.start < b.stop) records
        → count_by (overlaps a.seq a.start a.stop) records + count_by (ends_by a.seq a.start) records ≡ count_by (begins_before a.seq a.stop) records
    go [] h = refl
    go (b ∷ records) h =
        omega (
          arith,
          sum_by-cons (λ (r : RecordValue). cond {A = ℕ} (overlaps a.seq a.start a.stop r) 1 0) b records,
          sum_by-cons (λ (r : RecordValue). cond {A = ℕ} (ends_by a.seq a.start r) 1 0) b records,
          sum_by-cons (λ (r : RecordValue). cond {A = ℕ} (begins_before a.seq a.stop r) 1 0) b records,
          one-of a b some (All-head (λ (r : RecordValue). r.start < r.stop) b records h),
          go records (All-tail (λ (r : RecordValue). r.start < r.stop) b records h),
        )

-- ---- positions in order

-- what is before a position is before a later one
before-later : (seq at s t x y : ℕ) → IsOnward seq at s t → is_before seq at x y ≡ true → is_before s t x y ≡ true
before-later seq at s t x y h e = grind (arith, nat_tests)

up_to-later : (seq at s t x y : ℕ) → IsOnward seq at s t → is_up_to seq at x y ≡ true → is_up_to s t x y ≡ true
up_to-later seq at s t x y h e = grind (arith, nat_tests)

-- and what is no later than that too
before-earlier : (seq at s t x y : ℕ) → IsOnward x y s t → is_before seq at s t ≡ true → is_before seq at x y ≡ true
before-earlier seq at s t x y h e = grind (arith, nat_tests)

up_to-earlier : (seq at s t x y : ℕ) → IsOnward x y s t → is_up_to seq at s t ≡ true → is_up_to seq at x y ≡ true
up_to-earlier seq at s t x y h e = grind (arith, nat_tests)

-- no fewer begin before a later position, and no fewer end up to it
pub begun-more : (seq at s t : ℕ) (records : List RecordValue) → seq ≤ s → (seq ≡ s → at ≤ t) → count_by (begins_before seq at) records ≤ count_by (begins_before s t) records
begun-more seq at s t records low same = count-implied (begins_before seq at) (begins_before s t) records (λ b e. before-later seq at s t b.seq b.start (low, same) e)

pub ended-more : (seq at s t : ℕ) (records : List RecordValue) → seq ≤ s → (seq ≡ s → at ≤ t) → count_by (ends_by seq at) records ≤ count_by (ends_by s t) records
ended-more seq at s t records low same = count-implied (ends_by seq at) (ends_by s t) records (λ b e. up_to-later seq at s t b.seq b.stop (low, same) e)

-- ---- places as records

-- the places have the intervals of the records
abbrev LieAs : List Place → List RecordValue → Type 0
LieAs places records = map interval_in places ≡ map interval_of records

head-same : (a b : Interval) (xs ys : List Interval) → a ∷ xs ≡ b ∷ ys → a ≡ b
head-same a b xs ys e = cc

tail-same : (a b : Interval) (xs ys : List Interval) → a ∷ xs ≡ b ∷ ys → xs ≡ ys
tail-same a b xs ys e = cc

none-same : (b : Interval) (ys : List Interval) → [] ≡ b ∷ ys → ⊥
none-same b ys e = cc

some-same : (a : Interval) (xs : List Interval) → a ∷ xs ≡ [] → ⊥
some-same a xs e = cc

-- what holds of each place holds of each record, if it depends only on the interval
all-rows : (P : Interval → Type 0) (places : List Place) (records : List RecordValue) → LieAs places records → All (λ place. P (interval_in place)) places → All (λ r. P (interval_of r)) records
all-rows P [] [] e h = All-nil (λ r. P (interval_of r))
all-rows P [] (r ∷ records) e h = absurd (none-same _ _ e)
all-rows P (place ∷ places) [] e h = absurd (some-same _ _ e)
all-rows P (place ∷ places) (r ∷ records) e h =
    All-cons (λ q. P (interval_of q)) r records
    (subst P (head-same _ _ _ _ e) (All-head (λ q. P (interval_in q)) place places h))
    (all-rows P places records (tail-same _ _ _ _ e) (All-tail (λ q. P (interval_in q)) place places h))

-- and the other way round
all-places : (P : Interval → Type 0) (places : List Place) (records : List RecordValue) → LieAs places records → All (λ r. P (interval_of r)) records → All (λ place. P (interval_in place)) places
all-places P [] records e h = All-nil (λ place. P (interval_in place))
all-places P (place ∷ places) [] e h = absurd (some-same _ _ e)
all-places P (place ∷ places) (r ∷ records) e h =
    All-cons (λ q. P (interval_in q)) place places
    (subst P (sym (head-same _ _ _ _ e)) (All-head (λ q. P (interval_of q)) r records h))
    (all-places P places records (tail-same _ _ _ _ e) (All-tail (λ q. P (interval_of q)) r records h))

-- a test of the interval counts as many places as records
count-places : (p : Interval → Bool) (places : List Place) (records : List RecordValue) → LieAs places records → count_by (λ place. p (interval_in place)) places ≡ count_by (λ r. p (interval_of r)) records
count-places p places records e = sym (count-map interval_in p places) ∙ ap (λ (l : List Interval). count_by p l) e ∙ count-map interval_of p records

-- ---- where they begin

starts-ascend : (seq at : ℕ) (places : List Place) (records : List RecordValue) → LieAs places records → AreInOrder records → IsPartitionedBy (place_before seq at) places
starts-ascend seq at [] records e order = λ i j d le lt h. absurd (omega arith)
starts-ascend seq at (place ∷ places) [] e order = absurd (some-same _ _ e)
starts-ascend seq at (place ∷ places) (r ∷ records) e order =
    let same : interval_in place ≡ interval_of r = head-same _ _ _ _ e in
    let on : place.interval.seq ≡ r.seq = ap (λ (s : Interval). s.seq) same in
    let from : place.interval.start ≡ r.start = ap (λ (s : Interval). s.start) same in
    let later : All (λ (q : RecordValue). (r.seq ≤ q.seq) × (r.seq ≡ q.seq → r.start ≤ q.start)) records =
    All-weaker (λ (q : RecordValue). is_le (record_cmp r q) ≡ true) (λ (q : RecordValue). (r.seq ≤ q.seq) × (r.seq ≡ q.seq → r.start ≤ q.start)) (λ q k. precedes r q k) records
    (All-from_recursion (λ (q : RecordValue). is_le (record_cmp r q) ≡ true) records order.0) in
    let onward : All (λ (q : Place). (r.seq ≤ q.interval.seq) × (r.seq ≡ q.interval.seq → r.start ≤ q.interval.start)) places
    = all-places (λ (s : Interval). (r.seq ≤ s.seq) × (r.seq ≡ s.seq → r.start ≤ s.start)) places records (tail-same _ _ _ _ e) later in
    split_up-cons (place_before seq at) place places
    (All-weaker (λ (q : Place). (r.seq ≤ q.interval.seq) × (r.seq ≡ q.interval.seq → r.start ≤ q.interval.start)) (λ (q : Place). place_before seq at q ≡ true → place_before seq at place ≡ true)
    (λ q k h. rw (on, from) (before-earlier seq at q.interval.seq q.interval.start r.seq r.start k h)) places onward)
    (starts-ascend seq at places records (tail-same _ _ _ _ e) order.1)

pub AreStartsOf-rows : (places : List Place) (records : List RecordValue) → map interval_in places ≡ map interval_of records → All HasBase places → AreInOrder records → AreStartsOf places records
AreStartsOf-rows places records e some order = record {
  ascend = λ seq at. starts-ascend seq at places records e order;
  counts = λ seq at. count-places (λ s. is_before seq at s.seq s.start) places records e;
  some = all-rows (λ (s : Interval). s.start < s.stop) places records e some;
}

-- ---- where they end

-- ends by the rank of the sequence, and then by the stop
abbrev pub end_cmp : End → End → Ordering
end_cmp a b = ordering_then (nat_cmp a.seq b.seq) (nat_cmp a.stop b.stop)

ends_total : IsTotalOrder end_cmp
ends_total = then_total (on_total (λ (e : End). e.seq) nat_cmp_total) (on_total (λ (e : End). e.stop) nat_cmp_total)

no-less : (a b : ℕ) → is_lt (nat_cmp b a) ≡ false → a ≤ b
no-less a b h = by_ranked (b < a) (b ≡ a) (a < b) (nat_cmp b a) (ranked b a _ refl) (λ e l. let bad : true ≡ false = sym (ap is_lt e) ∙ h in absurd cc) (λ e l. omega arith) (λ e l. omega arith)

end-onward : (a b : End) → is_lt (end_cmp b a) ≡ false → IsOnward a.seq a.stop b.seq b.stop
end-onward a b h =
    let then : Ordering → Bool = λ (o : Ordering). is_lt (ordering_then o (nat_cmp b.stop a.stop)) in
    by_ranked (b.seq < a.seq) (b.seq ≡ a.seq) (a.seq < b.seq) (nat_cmp b.seq a.seq) (ranked b.seq a.seq _ refl)
    (λ e l. let bad : true ≡ false = sym (ap then e) ∙ h in absurd cc)
    (λ e l. (omega arith, λ _. no-less a.stop b.stop (sym (ap then e) ∙ h)))
    (λ e l. (omega arith, λ same. absurd (omega arith)))

pub EndsAscend-sorted : (ends : List End) → IsSorted end_cmp ends → EndsAscend ends
EndsAscend-sorted ends up = λ seq at i j d le lt e.
    let a : End = get_or ends i d in
    let b : End = get_or ends j d in
    up_to-earlier seq at b.seq b.stop a.seq a.stop
    (end-onward a b (sorted_far (λ x y. is_lt (end_cmp x y)) (ranks_by ends_total (λ (x : End). x)) ends up i j d le lt)) e

pub AreEndsOf-moved : (ends : List End) (places : List Place) (records : List RecordValue) → map interval_in places ≡ map interval_of records
    → IsPermutation (map end_of places) ends → EndsAscend ends → AreEndsOf ends records
AreEndsOf-moved ends places records e moved up = record {
  ascend = up;
  counts = λ seq at.
      sum_by-IsPermutation (λ (x : End). cond {A = ℕ} (end_by seq at x) 1 0) (map end_of places) ends moved
      ∙ count-map end_of (end_by seq at) places
      ∙ count-places (λ s. is_up_to seq at s.seq s.stop) places records e;
}

-- ---- the next record of the first list

-- no fewer begin before it
pub begun-later : (a : RecordValue) (records second : List RecordValue) (places : List Place) (seq start n : ℕ) → AreInOrder (a ∷ records) → AreStartsOf places second → seq ≡ a.seq → start ≡ a.start
    → n ≡ count_by (place_before seq start) places → All (λ y. n ≤ count_by (begins_before y.seq y.start) second) records
begun-later a records second places seq start n order lie on from is =
    let e : n ≡ count_by (begins_before a.seq a.start) second = is ∙ lie.counts seq start ∙ (λ i. count_by (begins_before (on i) (from i)) second) in
    All-weaker (λ (y : RecordValue). IsOnward a.seq a.start y.seq y.start) (λ y. n ≤ count_by (begins_before y.seq y.start) second)
    (λ y k. omega (arith, e, begun-more a.seq a.start y.seq y.start second k.0 k.1)) records (later-precedes a records order)

-- and no fewer end up to where it begins
pub ended-later : (a : RecordValue) (records second : List RecordValue) (ends : List End) (seq start n : ℕ) → AreInOrder (a ∷ records) → AreEndsOf ends second → seq ≡ a.seq → start ≡ a.start
    → n ≡ count_by (end_by seq start) ends → All (λ y. n ≤ count_by (ends_by y.seq y.start) second) records
ended-later a records second ends seq start n order are on from is =
    let e : n ≡ count_by (ends_by a.seq a.start) second = is ∙ are.counts seq start ∙ (λ i. count_by (ends_by (on i) (from i)) second) in
    All-weaker (λ (y : RecordValue). IsOnward a.seq a.start y.seq y.start) (λ y. n ≤ count_by (ends_by y.seq y.start) second)
    (λ y k. omega (arith, e, ended-more a.seq a.start y.seq y.start second k.0 k.1)) records (later-precedes a records order)

-- ---- a cursor over starts

-- no fewer places begin before a later position
pub places-more : (seq at later : ℕ) (places : List Place) → at ≤ later → count_by (place_before seq at) places ≤ count_by (place_before seq later) places
places-more seq at later places le = count-implied (place_before seq at) (place_before seq later) places (λ place e. before-later seq at seq later place.interval.seq place.interval.start (omega arith, λ _. le) e)

-- one that may go past all of them counts them
pub passes-all : (n count most : ℕ) → n ≤ count → (n < most → n ≡ count) → count ≤ most → n ≡ count
passes-all n count most few all low = elim (cases_lt n most) [
  | inl less ↦ all less
  | inr past ↦ omega arith
]

-- ---- what follows from two cursors about a record

pub hits-between : (a : RecordValue) (second : List RecordValue) (ends : List End) (places : List Place) (seq start stop ended reached : ℕ) → AreEndsOf ends second → AreStartsOf places second
    → a.start < a.stop → seq ≡ a.seq → start ≡ a.start → stop ≡ a.stop → ended ≡ count_by (end_by seq start) ends → reached ≡ count_by (place_before seq stop) places
    → length (hits_of second a) + ended ≡ reached
hits-between a second ends places seq start stop ended reached are lie some on from to low high =
    let e : ended ≡ count_by (ends_by a.seq a.start) second = low ∙ are.counts seq start ∙ (λ i. count_by (ends_by (on i) (from i)) second) in
    let r : reached ≡ count_by (begins_before a.seq a.stop) second = high ∙ lie.counts seq stop ∙ (λ i. count_by (begins_before (on i) (to i)) second) in
    omega (arith, e, r, count-hits a second some lie.some)
