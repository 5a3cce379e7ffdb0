-- A list in order, its equal neighbours taken as one entry each.
use Rattle.std.proofs.Common.{◌≡◌, ℕ, ◌+◌, ◌<◌, Bool, true, false, cond, List, [], ◌∷◌, refl, sym, ap, ◌∙◌, arith}
use Rattle.std.specs.Cmp.{IsTotalOrder, Equal-is, alike_right}
use Rattle.std.specs.List.{AllByRecursion}
use Rattle.std.specs.List.Sorted.{IsStrictlySortedBy}
use Rattle.std.specs.Map.{keys_of, values_of}
use Rattle.std.specs.Ordering.{is_eq, is_le, ordering_reverse}
use Rattle.std.specs.declared.cmp.Ordering.{Ordering}
use Rattle.std.specs.declared.cmp.Ordering.TheVariants.{Less, Equal, Greater}
use Rattle.std.proofs.lemmas.Bool.{cond_both}
use Rattle.std.proofs.lemmas.List.Elements.{All-from_recursion}
use Rattle.std.proofs.lemmas.List.Sums.{sum_by-cons}
use Rattle.iv_lines.specs.Ordered.{InOrder}
use Rattle.iv_lines.specs.Inside.Ordered.{copies_by}
use Rattle.iv_track.specs.Copies.{expanded}
use Rattle.iv_ledger.specs.Entries.{IsLedger}
use Rattle.iv_track.specs.Inside.Counted.{grouped_from, grouped, AreCounted}
use Rattle.iv_track.proofs.Counts.{count-front}

one-more : (b : Bool) (n : ℕ) → cond {A = ℕ} b (n + 1) 0 ≡ cond {A = ℕ} b n 0 + cond {A = ℕ} b 1 0
one-more true n = refl
one-more false n = omega arith

le_apart : (a b : Ordering) → b ≡ ordering_reverse a → is_le a ≡ true → is_eq b ≡ false → a ≡ Less
le_apart Less b e h n = refl
le_apart Equal b e h n = cc
le_apart Greater b e h n = cc

-- ---- the entries of keys in order

-- each has a copy
from-present : {K : Type 0} (cmp : K → K → Ordering) (k : K) (n : ℕ) (xs : List K) → 0 < n → AllByRecursion (λ m. 0 < m) (values_of (grouped_from cmp k n xs))
from-present cmp k n [] some = (some, tt)
from-present {K} cmp k n (q ∷ qs) some =
    cond_both (is_eq (cmp q k)) (grouped_from cmp k (n + 1) qs) ((k, n) ∷ grouped_from cmp q 1 qs) (λ (es : List (K × ℕ)). AllByRecursion (λ m. 0 < m) (values_of es))
    (λ _. from-present cmp k (n + 1) qs (omega arith))
    (λ _. (some, from-present cmp q 1 qs (omega arith)))

module _ {K : Type 0} (cmp : K → K → Ordering) (total : IsTotalOrder cmp) where
  -- they have the copies of the list
  from-copies : (k : K) (n : ℕ) (xs : List K) (x : K) → copies_by cmp (expanded (grouped_from cmp k n xs)) x ≡ cond (is_eq (cmp x k)) n 0 + copies_by cmp xs x
  from-copies k n [] x = count-front (λ y. is_eq (cmp x y)) n k []
  from-copies k n (q ∷ qs) x =
      cond_both (is_eq (cmp q k)) (grouped_from cmp k (n + 1) qs) ((k, n) ∷ grouped_from cmp q 1 qs) (λ (es : List (K × ℕ)). copies_by cmp (expanded es) x ≡ cond (is_eq (cmp x k)) n 0 + copies_by cmp (q ∷ qs) x)
      (λ alike. omega (
        arith,
        from-copies k (n + 1) qs x,
        one-more (is_eq (cmp x k)) n,
        sum_by-cons (λ y. cond (is_eq (cmp x y)) 1 0) q qs,
        ap {B = ℕ} (λ (o : Ordering). cond (is_eq o) 1 0) (alike_right total q k x ((Equal-is (cmp q k)).0 alike)),
      ))
      (λ _. omega (
        arith,
        count-front (λ y. is_eq (cmp x y)) n k (expanded (grouped_from cmp q 1 qs)),
        from-copies q 1 qs x,
        sum_by-cons (λ y. cond (is_eq (cmp x y)) 1 0) q qs,
      ))

  grouped-copies : (ks : List K) (x : K) → copies_by cmp (expanded (grouped cmp ks)) x ≡ copies_by cmp ks x
  grouped-copies [] x = refl
  grouped-copies (k ∷ ks) x = from-copies k 1 ks x ∙ sym (sum_by-cons (λ y. cond (is_eq (cmp x y)) 1 0) k ks)

  later : (q k : K) → is_le (cmp k q) ≡ true → is_eq (cmp q k) ≡ false → cmp k q ≡ Less
  later q k le apart = le_apart (cmp k q) (cmp q k) (total.antisymm q k) le apart

  -- what comes before the first comes before all
  from-below : (p k : K) (n : ℕ) (xs : List K) → cmp p k ≡ Less → InOrder cmp (k ∷ xs) → AllByRecursion (λ x. cmp p x ≡ Less) (keys_of (grouped_from cmp k n xs))
  from-below p k n [] less order = (less, tt)
  from-below p k n (q ∷ qs) less order =
      cond_both (is_eq (cmp q k)) (grouped_from cmp k (n + 1) qs) ((k, n) ∷ grouped_from cmp q 1 qs) (λ (es : List (K × ℕ)). AllByRecursion (λ x. cmp p x ≡ Less) (keys_of es))
      (λ _. from-below p k (n + 1) qs less (order.0.1, order.1.1))
      (λ apart. (less, from-below p q 1 qs (total.trans p k q less (later q k order.0.0 apart)) order.1))

  -- they ascend
  from-ordered : (k : K) (n : ℕ) (xs : List K) → InOrder cmp (k ∷ xs) → IsLedger cmp (grouped_from cmp k n xs)
  unfolding IsStrictlySortedBy
  from-ordered k n [] order = (tt, tt)
  from-ordered k n (q ∷ qs) order =
      cond_both (is_eq (cmp q k)) (grouped_from cmp k (n + 1) qs) ((k, n) ∷ grouped_from cmp q 1 qs) (IsLedger cmp)
      (λ _. from-ordered k (n + 1) qs (order.0.1, order.1.1))
      (λ apart. (from-below k q 1 qs (later q k order.0.0 apart) order.1, from-ordered q 1 qs order.1))

  in_order-ledger : (ks : List K) → InOrder cmp ks → IsLedger cmp (grouped cmp ks)
  unfolding IsStrictlySortedBy
  in_order-ledger [] order = tt
  in_order-ledger (k ∷ ks) order = from-ordered k 1 ks order

  pub grouped-counted : (ks : List K) → InOrder cmp ks → AreCounted cmp (grouped cmp ks) ks
  grouped-counted ks order = record {
    ordered = in_order-ledger ks order;
    present = All-from_recursion (λ n. 0 < n) (values_of (grouped cmp ks)) (present ks);
    counted = grouped-copies ks;
  }
    where
      present : (ks : List K) → AllByRecursion (λ n. 0 < n) (values_of (grouped cmp ks))
      present [] = tt
      present (k ∷ ks) = from-present cmp k 1 ks (omega arith)
