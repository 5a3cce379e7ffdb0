-- Orders of pairs of numbers, as numbers; and records from a position on.
use Rattle.std.proofs.Common.{◌≡◌, ℕ, ◌<◌, ◌≤◌, ◌&&◌, Bool, true, false, not, nat_lt, List, ◌∷◌, refl, sym, ap, ◌∙◌, arith, inl, inr}
use Rattle.std.specs.Prelude.{filter}
use Rattle.std.specs.declared.cmp.Ordering.{Ordering}
use Rattle.std.specs.declared.cmp.Ordering.TheVariants.{Less, Equal, Greater}
use Rattle.std.specs.Ordering.{is_le, is_ge, nat_cmp, ordering_then}
use Rattle.std.specs.Cmp.{ranked}
use Rattle.std.proofs.lemmas.Bool.{both_ways, ltb-true, ltb-false}
use Rattle.std.proofs.lemmas.List.Elements.{All-from_recursion}
use Rattle.std.proofs.lemmas.Map.Keys.{le_from_is_le}
use Rattle.iv_lines.specs.Ordered.{AreInOrder}
use Rattle.iv_lines.specs.RecordValue.{RecordValue, record_cmp}
use Rattle.iv_track.specs.Tracked.{is_from}
use Rattle.iv_track.proofs.NumberOrder.{le-cmp, ge-cmp}
use Rattle.iv_lines.proofs.PrecedesLemmas.{precedes-from}
use Rattle.iv_lines.proofs.ListLemmas.{Mem, all-mem, filter-agree, filter-filter}

pub le_pair : (a b c d : ℕ) → is_le (ordering_then (nat_cmp a b) (nat_cmp c d)) ≡ true → (a ≤ b) × (a ≡ b → c ≤ d)
le_pair a b c d h = go (nat_cmp a b) refl h
  where
    go : (o : Ordering) → o ≡ nat_cmp a b → is_le (ordering_then o (nat_cmp c d)) ≡ true → (a ≤ b) × (a ≡ b → c ≤ d)
    go Less e h = let r : a < b = ranked a b Less e in (omega arith, λ q. absurd (omega (arith, r, q)))
    go Equal e h = let r : a ≡ b = ranked a b Equal e in (omega arith, λ q. le_from_is_le c d h)
    go Greater e h = absurd cc

pub pair_le : (a b c d : ℕ) → a ≤ b → (a ≡ b → c ≤ d) → is_le (ordering_then (nat_cmp a b) (nat_cmp c d)) ≡ true
pair_le a b c d low next = go (nat_cmp a b) refl
  where
    go : (o : Ordering) → o ≡ nat_cmp a b → is_le (ordering_then o (nat_cmp c d)) ≡ true
    go Less e = refl
    go Equal e = le-cmp c d (next (ranked a b Equal e))
    go Greater e = let r : b < a = ranked a b Greater e in absurd (omega arith)

pub ge_pair : (a b c d : ℕ) → is_ge (ordering_then (nat_cmp a b) (nat_cmp c d)) ≡ true → b ≤ a
ge_pair a b c d h = go (nat_cmp a b) refl h
  where
    go : (o : Ordering) → o ≡ nat_cmp a b → is_ge (ordering_then o (nat_cmp c d)) ≡ true → b ≤ a
    go Less e h = absurd cc
    go Equal e h = let r : a ≡ b = ranked a b Equal e in omega arith
    go Greater e h = let r : b < a = ranked a b Greater e in omega arith

pub pair_ge : (a c d : ℕ) → d ≤ c → is_ge (ordering_then (nat_cmp a a) (nat_cmp c d)) ≡ true
pair_ge a c d h = go (nat_cmp a a) refl
  where
    go : (o : Ordering) → o ≡ nat_cmp a a → is_ge (ordering_then o (nat_cmp c d)) ≡ true
    go Less e = let r : a < a = ranked a a Less e in absurd (omega arith)
    go Equal e = ge-cmp c d h
    go Greater e = let r : a < a = ranked a a Greater e in absurd (omega arith)

-- ---- records from a position on

-- a test that implies another takes the same after it
pub filter-implied : {X : Type 0} (p t : X → Bool) (xs : List X) → ((q : X) → Mem q xs → p q ≡ true → t q ≡ true) → filter p (filter t xs) ≡ filter p xs
filter-implied p t xs h = filter-filter p t xs ∙ filter-agree (λ q. t q && p q) p xs (λ q m. agree (p q) (t q) (h q m))
  where
    agree : (a b : Bool) → (a ≡ true → b ≡ true) → (b && a) ≡ a
    agree true b h = ap (λ c. c && true) (h refl)
    agree false true h = refl
    agree false false h = refl

-- a record that is not from there on is on an earlier sequence, or starts before
pub not_from : (seq start : ℕ) (q : RecordValue) → not (is_from seq start q) ≡ true → (q.seq ≤ seq) × (q.seq ≡ seq → q.start < start)
not_from seq start q h = (go (nat_lt seq q.seq) refl, λ same. stay (nat_lt q.start start) refl same)
  where
    not_true : (b : Bool) → not b ≡ true → b ≡ false
    not_true true e = absurd cc
    not_true false e = refl

    go : (b : Bool) → b ≡ nat_lt seq q.seq → q.seq ≤ seq
    go true e =
        let later : seq < q.seq = ltb-true seq q.seq (sym e) in
        let is = pair_le seq q.seq start q.start (omega arith) (λ e. absurd (omega (arith, e, later))) in
        absurd (both_ways (is_from seq start q) (not_true (is_from seq start q) h) is)
    go false e = ltb-false seq q.seq (sym e)

    stay : (b : Bool) → b ≡ nat_lt q.start start → q.seq ≡ seq → q.start < start
    stay true e same = ltb-true q.start start (sym e)
    stay false e same =
        let up : start ≤ q.start = ltb-false q.start start (sym e) in
        let is = pair_le seq q.seq start q.start (omega (arith, same)) (λ _. up) in
        absurd (both_ways (is_from seq start q) (not_true (is_from seq start q) h) is)

from_next : (seq p : ℕ) (x y : RecordValue) → is_from seq p x ≡ true → is_le (record_cmp x y) ≡ true → is_from seq p y ≡ true
from_next seq p x y h le =
    let a = le_pair seq x.seq p x.start h in
    let low : seq ≤ x.seq = a.0 in
    elim (precedes-from x y le) [
      | inl later ↦ pair_le seq y.seq p y.start (omega arith) (λ e. absurd (omega (arith, e, low, later)))
      | inr same ↦
          let rank : x.seq ≡ y.seq = same.0 in
          let on : x.start ≤ y.start = same.1 in
          pair_le seq y.seq p y.start (omega arith) (λ e. let m : p ≤ x.start = a.1 (omega (arith, e, rank)) in omega arith)
    ]

-- if the first of records in order is from there on, all are
pub from_all : (seq p : ℕ) (r : RecordValue) (records : List RecordValue) → AreInOrder (r ∷ records) → is_from seq p r ≡ true → (q : RecordValue) → Mem q (r ∷ records) → is_from seq p q ≡ true
from_all seq p r records o h q (inl is) = ap (is_from seq p) (sym is) ∙ h
from_all seq p r records o h q (inr m) = from_next seq p r q h (all-mem (λ y. is_le (record_cmp r y) ≡ true) records (All-from_recursion (λ y. is_le (record_cmp r y) ≡ true) records o.0) q m)
