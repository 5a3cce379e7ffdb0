-- Places that are joined: what they cover, and that they are apart.
use Rattle.std.proofs.Common.{◌≡◌, ℕ, ◌<◌, ◌≤◌, ◌==◌, ◌&&◌, ◌||◌, nat_le, nat_lt, Bool, true, false, cond, List, [], ◌∷◌, map, All, refl, sym, ap, ◌∙◌, arith, inl, inr}
use Rattle.std.specs.List.{AllByRecursion, list_any}
use Rattle.std.specs.Ordering.{is_le, nat_cmp}
use Rattle.std.specs.declared.cmp.Ordering.TheVariants.{Equal}
use Rattle.std.specs.Cmp.{nat_cmp_total, tied_itself}
use Rattle.std.proofs.lemmas.Bool.{and_cases, and_parts, eqb-true, eqb-false, leb-true, leb-false, lt-ltb, cases_lt}
use Rattle.std.proofs.lemmas.Bool.Decides.{nat_tests}
use Rattle.std.proofs.lemmas.List.Elements.{All-from_recursion, recursion_from_All, All-map}
use Rattle.std.proofs.lemmas.List.Kept.{AllPairs-cons}
use Rattle.std.proofs.Math.Bool.{or_assoc}
use Rattle.iv_lines.specs.Ordered.{AreInOrder}
use Rattle.iv_lines.specs.RecordValue.{RecordValue, record_cmp}
use Rattle.iv_lines.proofs.PrecedesLemmas.{precedes-from}
use Rattle.iv_places.specs.Cover.{is_covered}
use Rattle.iv_places.specs.Inside.Cover.{AreApart}
use Rattle.iv_places.specs.Inside.Joins.{touches, grown, joined_places, joined_from}
use Rattle.iv_lines.specs.Intervals.{bare}
use Rattle.iv_places.specs.Inside.Places.{HasBase, IsPlace, record_at, records_at}
use Rattle.iv_places.specs.declared.placed_records.Place.{Place}

-- the place covers position p of the sequence of this rank
abbrev on : ℕ → ℕ → Place → Bool
on seq p place = (place.interval.seq == seq) && (nat_le place.interval.start p && nat_lt p place.interval.stop)

-- b doesn't start before a
abbrev Before : Place → Place → Type 0
Before a b = (a.interval.seq ≤ b.interval.seq) × (a.interval.seq ≡ b.interval.seq → a.interval.start ≤ b.interval.start)

-- b is on the sequence of a and starts past its stop, or on a later one
abbrev Past : Place → Place → Type 0
Past a b = (a.interval.seq ≤ b.interval.seq) × (a.interval.seq ≡ b.interval.seq → a.interval.stop < b.interval.start)

-- each place is so beside each that comes after it
abbrev pub InTurn : (Place → Place → Type 0) → List Place → Type 0
InTurn R [] = Unit {0}
InTurn R (x ∷ xs) = AllByRecursion (R x) xs × InTurn R xs

-- ---- what they cover

-- two places that touch, as one place
on-grown : (seq p : ℕ) (k x : Place) → touches k x ≡ true → Before k x → on seq p (grown k x) ≡ (on seq p k || on seq p x)
on-grown seq p k x touch before =
    let parts = and_parts (k.interval.seq == x.interval.seq) (nat_le x.interval.start k.interval.stop) touch in
    let same : k.interval.seq ≡ x.interval.seq = eqb-true k.interval.seq x.interval.seq parts.0 in
    let reach : x.interval.start ≤ k.interval.stop = leb-true x.interval.start k.interval.stop parts.1 in
    let begin : k.interval.start ≤ x.interval.start = before.1 same in
    grind (arith, nat_tests)

cover_from : (seq p : ℕ) (k : Place) (xs : List Place) → InTurn Before (k ∷ xs) → list_any (on seq p) (joined_from k xs) ≡ (on seq p k || list_any (on seq p) xs)
cover_from seq p k [] turn = refl
cover_from seq p k (x ∷ xs) turn = (elim (touches k x) as (λ c. touches k x ≡ c → list_any (on seq p) (cond c (joined_from (grown k x) xs) (k ∷ joined_from x xs)) ≡ (on seq p k || (on seq p x || list_any (on seq p) xs))) [
  | true ↦ λ touch.
      cover_from seq p (grown k x) xs (turn.0.1, turn.1.1)
      ∙ ap (λ b. b || list_any (on seq p) xs) (on-grown seq p k x touch turn.0.0)
      ∙ or_assoc (on seq p k) (on seq p x) (list_any (on seq p) xs)
  | false ↦ λ _. ap (λ b. on seq p k || b) (cover_from seq p x xs turn.1)
]) refl

cover-joined : (seq p : ℕ) (xs : List Place) → InTurn Before xs → list_any (on seq p) (joined_places xs) ≡ list_any (on seq p) xs
cover-joined seq p [] turn = refl
cover-joined seq p (x ∷ xs) turn = cover_from seq p x xs turn

cover-rows : (w : ℕ) (rests : List ℕ) (seq p : ℕ) (xs : List Place) → is_covered (records_at w rests xs) seq p ≡ list_any (on seq p) xs
cover-rows w rests seq p [] = refl
cover-rows w rests seq p (x ∷ xs) = ap (λ b. on seq p x || b) (cover-rows w rests seq p xs)

-- ---- that they are apart

past-untouched : (k x : Place) → touches k x ≡ false → Before k x → Past k x
past-untouched k x not before = (
  before.0,
  λ same. elim (and_cases (k.interval.seq == x.interval.seq) (nat_le x.interval.start k.interval.stop) not) [
    | inl other ↦ absurd (eqb-false k.interval.seq x.interval.seq other same)
    | inr far ↦ leb-false x.interval.start k.interval.stop far
  ],
)

past-before : (j k x : Place) → Past j k → Before k x → Past j x
past-before j k x past before =
    let low : j.interval.seq ≤ k.interval.seq = past.0 in
    let high : k.interval.seq ≤ x.interval.seq = before.0 in (
      omega arith,
      λ same.
          let here : j.interval.seq ≡ k.interval.seq = omega arith in
          let there : k.interval.seq ≡ x.interval.seq = omega arith in
          let far : j.interval.stop < k.interval.start = past.1 here in
          let on : k.interval.start ≤ x.interval.start = before.1 there in
          omega arith,
    )

past_from : (j k : Place) (xs : List Place) → Past j k → InTurn Before (k ∷ xs) → AllByRecursion (Past j) (joined_from k xs)
past_from j k [] past turn = (past, tt)
past_from j k (x ∷ xs) past turn = elim (touches k x) as (λ c. AllByRecursion (Past j) (cond c (joined_from (grown k x) xs) (k ∷ joined_from x xs))) [
  | true ↦ past_from j (grown k x) xs past (turn.0.1, turn.1.1)
  | false ↦ (past, past_from j x xs (past-before j k x past turn.0.0) turn.1)
]

apart_from : (k : Place) (xs : List Place) → InTurn Before (k ∷ xs) → InTurn Past (joined_from k xs)
apart_from k [] turn = (tt, tt)
apart_from k (x ∷ xs) turn = (elim (touches k x) as (λ c. touches k x ≡ c → InTurn Past (cond c (joined_from (grown k x) xs) (k ∷ joined_from x xs))) [
  | true ↦ λ _. apart_from (grown k x) xs (turn.0.1, turn.1.1)
  | false ↦ λ not. (past_from k x xs (past-untouched k x not turn.0.0) turn.1, apart_from x xs turn.1)
]) refl

apart-joined : (xs : List Place) → InTurn Before xs → InTurn Past (joined_places xs)
apart-joined [] turn = tt
apart-joined (x ∷ xs) turn = apart_from x xs turn

-- ---- that each has a base

bases_from : (k : Place) (xs : List Place) → HasBase k → AllByRecursion HasBase xs → AllByRecursion HasBase (joined_from k xs)
bases_from k [] some all = (some, tt)
bases_from k (x ∷ xs) some all = elim (touches k x) as (λ c. AllByRecursion HasBase (cond c (joined_from (grown k x) xs) (k ∷ joined_from x xs))) [
  | true ↦ bases_from (grown k x) xs (omega arith) all.1
  | false ↦ (some, bases_from x xs all.0 all.1)
]

bases : (xs : List Place) → AllByRecursion HasBase xs → AllByRecursion HasBase (joined_places xs)
bases [] all = all
bases (x ∷ xs) all = bases_from x xs all.0 all.1

-- ---- that they are those of records

grown-place : (w : ℕ) (rests : List ℕ) (k x : Place) → IsPlace w rests k → IsPlace w rests (grown k x)
grown-place w rests k x is = record { some = let base : HasBase k = is.some in omega arith; known = is.known; ended = is.ended; whole = is.whole }

places_from : (w : ℕ) (rests : List ℕ) (k : Place) (xs : List Place) → IsPlace w rests k → AllByRecursion (IsPlace w rests) xs → AllByRecursion (IsPlace w rests) (joined_from k xs)
places_from w rests k [] is all = (is, tt)
places_from w rests k (x ∷ xs) is all = elim (touches k x) as (λ c. AllByRecursion (IsPlace w rests) (cond c (joined_from (grown k x) xs) (k ∷ joined_from x xs))) [
  | true ↦ places_from w rests (grown k x) xs (grown-place w rests k x is) all.1
  | false ↦ (is, places_from w rests x xs all.0 all.1)
]

all_places : (w : ℕ) (rests : List ℕ) (xs : List Place) → AllByRecursion (IsPlace w rests) xs → AllByRecursion (IsPlace w rests) (joined_places xs)
all_places w rests [] all = all
all_places w rests (x ∷ xs) all = places_from w rests x xs all.0 all.1

pub places-joined : (w : ℕ) (rests : List ℕ) (xs : List Place) → All (IsPlace w rests) xs → All (IsPlace w rests) (joined_places xs)
places-joined w rests xs all =
    All-from_recursion (IsPlace w rests) (joined_places xs) (all_places w rests xs (recursion_from_All (IsPlace w rests) xs all))

-- ---- their records

before : (a b : RecordValue) → is_le (record_cmp a b) ≡ true → (a.seq ≤ b.seq) × (a.seq ≡ b.seq → a.start ≤ b.start)
before a b h = elim (precedes-from a b h) [
  | inl later ↦ (omega (arith, later), λ e. absurd (omega (arith, later, e)))
  | inr same ↦ (omega (arith, same.0), λ e. same.1)
]

each-before : (w : ℕ) (rests : List ℕ) (x : Place) (xs : List Place) → AllByRecursion (λ y. is_le (record_cmp (record_at w rests x) y) ≡ true) (records_at w rests xs) → AllByRecursion (Before x) xs
each-before w rests x [] all = tt
each-before w rests x (y ∷ ys) all = (before (record_at w rests x) (record_at w rests y) all.0, each-before w rests x ys all.1)

in-turn : (w : ℕ) (rests : List ℕ) (xs : List Place) → AreInOrder (records_at w rests xs) → InTurn Before xs
in-turn w rests [] order = tt
in-turn w rests (x ∷ xs) order = (each-before w rests x xs order.0, in-turn w rests xs order.1)

row-le : (a b : RecordValue) → a.seq ≤ b.seq → (a.seq ≡ b.seq → a.start < b.start) → is_le (record_cmp a b) ≡ true
row-le a b low starts = elim (cases_lt a.seq b.seq) [
  | inl less ↦ rw (lt-ltb a.seq b.seq less) refl
  | inr not ↦
      let same : a.seq ≡ b.seq = omega arith in
      let tied : nat_cmp a.seq b.seq ≡ Equal = rw (← same) (tied_itself nat_cmp_total a.seq) in
      rw (tied, lt-ltb a.start b.start (starts same)) refl
]

each-after : (w : ℕ) (rests : List ℕ) (x : Place) (xs : List Place) → HasBase x → AllByRecursion (Past x) xs → AllByRecursion (λ y. is_le (record_cmp (record_at w rests x) y) ≡ true) (records_at w rests xs)
each-after w rests x [] some all = tt
each-after w rests x (y ∷ ys) some all = (
  row-le (record_at w rests x) (record_at w rests y) all.0.0 (λ same. let far : x.interval.stop < y.interval.start = all.0.1 same in omega arith),
  each-after w rests x ys some all.1,
)

order-apart : (w : ℕ) (rests : List ℕ) (xs : List Place) → AllByRecursion HasBase xs → InTurn Past xs → AreInOrder (records_at w rests xs)
order-apart w rests [] some turn = tt
order-apart w rests (x ∷ xs) some turn = (each-after w rests x xs some.0 turn.0, order-apart w rests xs some.1 turn.1)

each-apart : (w : ℕ) (rests : List ℕ) (x : Place) (xs : List Place) → AllByRecursion (Past x) xs → AllByRecursion (λ (y : RecordValue). x.interval.seq ≡ y.seq → x.interval.stop < y.start) (records_at w rests xs)
each-apart w rests x [] all = tt
each-apart w rests x (y ∷ ys) all = (all.0.1, each-apart w rests x ys all.1)

rows-apart : (w : ℕ) (rests : List ℕ) (xs : List Place) → InTurn Past xs → AreApart (records_at w rests xs)
rows-apart w rests [] turn = λ i j d low high. absurd (omega arith)
rows-apart w rests (x ∷ xs) turn =
    AllPairs-cons (λ (a b : RecordValue). a.seq ≡ b.seq → a.stop < b.start) (record_at w rests x) (records_at w rests xs)
    (All-from_recursion (λ (y : RecordValue). x.interval.seq ≡ y.seq → x.interval.stop < y.start) (records_at w rests xs) (each-apart w rests x xs turn.0)) (rows-apart w rests xs turn.1)

-- the records of joined places cover what those of the places do
pub covered-joined : (w v : ℕ) (rests : List ℕ) (xs : List Place) → AreInOrder (records_at w rests xs) → (seq p : ℕ) → is_covered (records_at v rests (joined_places xs)) seq p ≡ is_covered (records_at w rests xs) seq p
covered-joined w v rests xs order seq p = cover-rows v rests seq p (joined_places xs) ∙ cover-joined seq p xs (in-turn w rests xs order) ∙ sym (cover-rows w rests seq p xs)

-- they are apart
pub rows-joined_apart : (w v : ℕ) (rests : List ℕ) (xs : List Place) → AreInOrder (records_at w rests xs) → AreApart (records_at v rests (joined_places xs))
rows-joined_apart w v rests xs order = rows-apart v rests (joined_places xs) (apart-joined xs (in-turn w rests xs order))

-- they are in order
pub rows-joined_order : (w v : ℕ) (rests : List ℕ) (xs : List Place) → All HasBase xs → AreInOrder (records_at w rests xs) → AreInOrder (records_at v rests (joined_places xs))
rows-joined_order w v rests xs some order = order-apart v rests (joined_places xs) (bases xs (recursion_from_All HasBase xs some)) (apart-joined xs (in-turn w rests xs order))

-- records in three columns are what they are in three columns
pub all-bare : (records : List RecordValue) → All (λ r. r ≡ bare r) (map bare records)
all-bare records = All-map (λ (r : RecordValue). r ≡ bare r) bare records (λ k d h. refl)
