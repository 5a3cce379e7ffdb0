-- The records of one sequence, in front of those of later ones.
use Rattle.std.proofs.Common.{ℕ, zero, suc, ◌+◌, ◌<◌, ◌≤◌, ◌≡◌, ◌==◌, nat_le, nat_lt, inl, inr, Bool, true, false, List, [], ◌∷◌, refl, sym, ap, ◌∙◌, subst, All, get_or, length, map, take, drop, filter, arith, eq-eqb, eqb-true, lt-ltb, ltb-true, le-leb, leb-true}
use Rattle.std.specs.List.{AllByRecursion}
use Rattle.std.specs.List.Sorted.{IsPartitionedBy, IsPartitionPoint}
use Rattle.std.proofs.lemmas.Bool.{and_parts, and_from, le-ltb, ne_eqb, leb-false}
use Rattle.std.proofs.lemmas.List.Elements.{All-head, All-tail}
use Rattle.iv_lines.specs.Ordered.{AreInOrder}
use Rattle.iv_lines.specs.RecordValue.{RecordValue, record_cmp}
use Rattle.std.specs.Ordering.{is_le}
use Rattle.iv_lines.specs.CoveredPositions.{on}
use Rattle.iv_lines.proofs.ListLemmas.{same_tests, mem-all, mem-filter, filter-filter, filter-agree, filter-all}
use Rattle.iv_lines.proofs.InOrderLemmas.{in_order-filter}
use Rattle.iv_lines.proofs.PrecedesLemmas.{precedes-from}

module _ {X : Type 0} (feature : X → RecordValue) (seq : ℕ) where
  -- each of these records is on this sequence or a later one
  low-at : (r : RecordValue) (places : List X) → AllByRecursion (λ y. is_le (record_cmp r y) ≡ true) (map feature places)
      → (j : ℕ) (d : X) → j < length places → r.seq ≤ (feature (get_or places j d)).seq
  low-at r [] all j d lt = absurd (omega arith)
  low-at r (p ∷ places) all zero d lt = elim (precedes-from r (feature p) all.0) [
    | inl less ↦ omega arith
    | inr same ↦ omega (arith, same.0)
  ]
  low-at r (p ∷ places) all (suc j) d lt = low-at r places all.1 j d (omega arith)

  -- those up to a rank come first
  parted : (places : List X) → AreInOrder (map feature places) → IsPartitionedBy (λ place. nat_le (feature place).seq seq) places
  parted [] order i j d le lt e = absurd (omega arith)
  parted (p ∷ places) order zero zero d le lt e = e
  parted (p ∷ places) order zero (suc j) d le lt e =
      let low : (feature p).seq ≤ (feature (get_or places j d)).seq = low-at (feature p) places order.0 j d (omega arith) in
      le-leb (feature p).seq seq (omega (arith, leb-true (feature (get_or places j d)).seq seq e))
  parted (p ∷ places) order (suc i) zero d le lt e = absurd (omega arith)
  parted (p ∷ places) order (suc i) (suc j) d le lt e = parted places order.1 i j d (omega arith) (omega arith) e

  -- if none is below the rank, they are the records on it, and those after them are on later ones
  split-here : (places : List X) (n : ℕ) → n ≤ length places
      → IsPartitionPoint (λ place. nat_le (feature place).seq seq ≡ true) (λ place. nat_le (feature place).seq seq ≡ false) places n
      → All (λ r. seq ≤ r.seq) (map feature places)
      → (take n (map feature places) ≡ on seq (map feature places))
      × (drop n (map feature places) ≡ filter (λ r. nat_lt seq r.seq) (map feature places))
  split-here [] zero within point from = (refl, refl)
  split-here [] (suc n) within point from = absurd (omega arith)
  split-here (p ∷ places) zero within point from =
      let rest = split-here places zero (omega arith) ((λ k d low high. absurd (omega arith)), (λ k d low high. point.1 (suc k) d (omega arith) (omega arith)))
      (All-tail (λ (r : RecordValue). seq ≤ r.seq) (feature p) (map feature places) from) in
      let past : seq < (feature p).seq = leb-false (feature p).seq seq (point.1 0 p (omega arith) (omega arith)) in
      let off : ((feature p).seq == seq) ≡ false = ne_eqb (feature p).seq seq (λ at. omega (arith, past, at)) in
      let later : nat_lt seq (feature p).seq ≡ true = lt-ltb seq (feature p).seq past in
      (rw off rest.0, rw later (ap (λ (l : List RecordValue). feature p ∷ l) rest.1))
  split-here (p ∷ places) (suc n) within point from =
      let rest = split-here places n (omega arith) ((λ k d low high. point.0 (suc k) d (omega arith) (omega arith)), (λ k d low high. point.1 (suc k) d (omega arith) (omega arith)))
      (All-tail (λ (r : RecordValue). seq ≤ r.seq) (feature p) (map feature places) from) in
      let first : seq ≤ (feature p).seq = All-head (λ (r : RecordValue). seq ≤ r.seq) (feature p) (map feature places) from in
      let low : (feature p).seq ≤ seq = leb-true (feature p).seq seq (point.0 0 p (omega arith) (omega arith)) in
      let on_it : ((feature p).seq == seq) ≡ true = eq-eqb (feature p).seq seq (omega (arith, first, low)) in
      let not_later : nat_lt seq (feature p).seq ≡ false = le-ltb seq (feature p).seq low in
      (rw on_it (ap (λ (l : List RecordValue). feature p ∷ l) rest.0), rw not_later rest.1)

  -- so a search among the intervals of records in order finds how many there are
  pub split-rows : (places : List X) (records : List RecordValue) (n : ℕ) → map feature places ≡ records → AreInOrder records → All (λ r. seq ≤ r.seq) records
      → n ≤ length places
      → (IsPartitionedBy (λ place. nat_le (feature place).seq seq) places → IsPartitionPoint (λ place. nat_le (feature place).seq seq ≡ true) (λ place. nat_le (feature place).seq seq ≡ false) places n)
      → (take n records ≡ on seq records) × (drop n records ≡ filter (λ r. nat_lt seq r.seq) records)
  split-rows places records n is order from within found =
      subst (λ (l : List RecordValue). (take n l ≡ on seq l) × (drop n l ≡ filter (λ r. nat_lt seq r.seq) l)) is
      (split-here places n within (found (parted places (subst AreInOrder (sym is) order))) (subst (All (λ (r : RecordValue). seq ≤ r.seq)) (sym is) from))

-- ---- the records from a sequence on

-- the record is on the sequence of this rank or a later one
abbrev pub is_from : ℕ → RecordValue → Bool
is_from seq r = nat_le seq r.seq

pub all-from : (records : List RecordValue) → filter (is_from 0) records ≡ records
all-from records = filter-all (is_from 0) records (λ q m. le-leb 0 q.seq (omega arith))

pub from-in : (seq : ℕ) (records : List RecordValue) → All (λ r. seq ≤ r.seq) (filter (is_from seq) records)
from-in seq records = mem-all (λ r. seq ≤ r.seq) (filter (is_from seq) records) (λ q m. leb-true seq q.seq (mem-filter (is_from seq) records q m).1)

pub from-order : (seq : ℕ) (records : List RecordValue) → AreInOrder records → AreInOrder (filter (is_from seq) records)
from-order seq records order = in_order-filter record_cmp (is_from seq) records order

pub from-here : (seq : ℕ) (records : List RecordValue) → on seq (filter (is_from seq) records) ≡ on seq records
from-here seq records =
    filter-filter (λ r. r.seq == seq) (is_from seq) records
    ∙ filter-agree _ _ records (λ q m. same_tests _ _
    (λ e. (and_parts (is_from seq q) (q.seq == seq) e).1)
    (λ e. and_from _ _ (le-leb seq q.seq (omega (arith, eqb-true q.seq seq e))) e))

pub from-later : (seq : ℕ) (records : List RecordValue) → filter (λ r. nat_lt seq r.seq) (filter (is_from seq) records) ≡ filter (is_from (seq + 1)) records
from-later seq records =
    filter-filter (λ r. nat_lt seq r.seq) (is_from seq) records
    ∙ filter-agree _ _ records (λ q m. same_tests _ _
    (λ e. le-leb (seq + 1) q.seq (omega (arith, ltb-true seq q.seq (and_parts (is_from seq q) (nat_lt seq q.seq) e).1)))
    (λ e. let low : seq + 1 ≤ q.seq = leb-true (seq + 1) q.seq e in and_from _ _ (le-leb seq q.seq (omega (arith, low))) (lt-ltb seq q.seq (omega (arith, low)))))
