-- How many elements pass a test, in a list in which those that do come first.
use Rattle.std.proofs.Common.{◌≡◌, ℕ, zero, suc, ◌+◌, ◌-◌, ◌<◌, ◌≤◌, inl, inr, Bool, true, false, cond, List, [], ◌∷◌, All, length, get_or, drop, map, refl, sym, ap, subst, ◌∙◌, arith}
use Rattle.std.specs.Prelude.{count_by}
use Rattle.std.specs.List.{prefix_len}
use Rattle.std.specs.List.Sorted.{IsPartitionedBy, IsPartitionPoint}
use Rattle.std.proofs.lemmas.Bool.{cases_lt, both_ways, false_from_ne_true}
use Rattle.std.proofs.lemmas.List.{length-drop, get_or-drop}
use Rattle.std.proofs.lemmas.List.Elements.{All-head, All-tail}
use Rattle.std.proofs.lemmas.List.Sums.{sum_by-cons, count_by-le-length, prefix_len_passes, prefix_len_stops, prefix_len_is, prefix_len-le-length}

-- ---- counts of two lists

-- if each that passes p passes q, as many pass q at least
pub count-implied : {X : Type 0} (p q : X → Bool) (xs : List X) → ((x : X) → p x ≡ true → q x ≡ true) → count_by p xs ≤ count_by q xs
count-implied p q [] h = omega arith
count-implied {X} p q (x ∷ xs) h =
    omega (arith, sum_by-cons (λ (y : X). cond (p y) 1 0) x xs, sum_by-cons (λ (y : X). cond (q y) 1 0) x xs, one (p x) (q x) (h x), count-implied p q xs h)
  where
    one : (s t : Bool) → (s ≡ true → t ≡ true) → cond {A = ℕ} s 1 0 ≤ cond {A = ℕ} t 1 0
    one true true k = omega arith
    one true false k = let e : false ≡ true = k refl in absurd cc
    one false t k = omega arith

pub count-map : {X Y : Type 0} (f : X → Y) (p : Y → Bool) (xs : List X) → count_by p (map f xs) ≡ count_by (λ x. p (f x)) xs
count-map f p [] = refl
count-map {X} {Y} f p (x ∷ xs) =
    sum_by-cons (λ (y : Y). cond (p y) 1 0) (f x) (map f xs) ∙ ap (λ (n : ℕ). cond (p (f x)) 1 0 + n) (count-map f p xs)
    ∙ sym (sum_by-cons (λ (y : X). cond (p (f y)) 1 0) x xs)

-- ---- those in front

module _ {X : Type 0} (p : X → Bool) where
  count-none : (xs : List X) → All (λ x. p x ≡ false) xs → count_by p xs ≡ 0
  count-none [] h = refl
  count-none (x ∷ xs) h =
      let first : p x ≡ false = All-head (λ y. p y ≡ false) x xs h in
      let rest : count_by p xs ≡ 0 = count-none xs (All-tail (λ y. p y ≡ false) x xs h) in
      sum_by-cons (λ (y : X). cond (p y) 1 0) x xs ∙ rw first (omega (arith, rest))

  pub split_up-cons : (x : X) (xs : List X) → All (λ y. p y ≡ true → p x ≡ true) xs → IsPartitionedBy p xs → IsPartitionedBy p (x ∷ xs)
  split_up-cons x xs first rest zero zero d le lt e = e
  split_up-cons x xs first rest zero (suc j) d le lt e = first j d (omega arith) e
  split_up-cons x xs first rest (suc i) zero d le lt e = absurd (omega arith)
  split_up-cons x xs first rest (suc i) (suc j) d le lt e = rest i j d (omega arith) (omega arith) e

  split_up-tail : (x : X) (xs : List X) → IsPartitionedBy p (x ∷ xs) → IsPartitionedBy p xs
  split_up-tail x xs h = λ i j d le lt e. h (suc i) (suc j) d (omega arith) (omega arith) e

  -- they are those in front
  counted : (xs : List X) → IsPartitionedBy p xs → count_by p xs ≡ prefix_len p xs
  counted [] h = refl
  counted (x ∷ xs) h = sum_by-cons (λ (y : X). cond (p y) 1 0) x xs ∙ go (counted xs (split_up-tail x xs h)) (p x) refl
    where
      go : count_by p xs ≡ prefix_len p xs → (t : Bool) → p x ≡ t → cond {A = ℕ} t 1 0 + count_by p xs ≡ cond {A = ℕ} t (1 + prefix_len p xs) 0
      go rest true is = ap (λ (n : ℕ). 1 + n) rest
      go rest false is =
          let none : count_by p xs ≡ 0 = count-none xs (λ k d lt. false_from_ne_true (p (get_or xs k d)) (λ e. both_ways (p x) is (h 0 (suc k) d (omega arith) (omega arith) e))) in
          omega (arith, none)

  -- a cursor goes past one more that passes
  pub passes-more : (xs : List X) (k : ℕ) (d : X) → IsPartitionedBy p xs → k ≤ count_by p xs → k < length xs → p (get_or xs k d) ≡ true → k + 1 ≤ count_by p xs
  passes-more xs k d split_up low within is = elim (cases_lt k (prefix_len p xs)) [
    | inl more ↦ omega (arith, counted xs split_up)
    | inr most ↦
        let here : prefix_len p xs ≡ k = omega (arith, counted xs split_up) in
        let stops : p (get_or xs (prefix_len p xs) d) ≡ false = prefix_len_stops p xs d (omega arith) in
        absurd (both_ways (p (get_or xs k d)) (subst (λ (n : ℕ). p (get_or xs n d) ≡ false) here stops) is)
  ]

  -- and stops at the first that doesn't
  pub stops-at : (xs : List X) (k : ℕ) (d : X) → IsPartitionedBy p xs → k ≤ count_by p xs → p (get_or xs k d) ≡ false → k ≡ count_by p xs
  stops-at xs k d split_up low not = elim (cases_lt k (prefix_len p xs)) [
    | inl more ↦ absurd (both_ways (p (get_or xs k d)) not (prefix_len_passes p xs k d more))
    | inr most ↦ omega (arith, counted xs split_up)
  ]

  -- or past the last
  pub stops-past : (xs : List X) (k : ℕ) → k ≤ count_by p xs → length xs ≤ k → k ≡ count_by p xs
  stops-past xs k low past = omega (arith, count_by-le-length p xs)

  pub split_up-drop : (xs : List X) (n : ℕ) → IsPartitionedBy p xs → IsPartitionedBy p (drop n xs)
  split_up-drop xs n h = λ i j d le lt e.
      let within : j < length xs - n = omega (arith, lt, length-drop n xs) in
      ap p (get_or-drop n xs i d) ∙ h (n + i) (n + j) d (omega arith) (omega arith) (sym (ap p (get_or-drop n xs j d)) ∙ e)

  -- a search over those that are left
  pub searched-past : (xs : List X) (n i : ℕ) (d : X) → IsPartitionedBy p xs → n ≤ count_by p xs
      → IsPartitionPoint (λ x. p x ≡ true) (λ x. p x ≡ false) (drop n xs) i → i ≤ length (drop n xs) → n + i ≡ count_by p xs
  searched-past xs n i d split_up low point most =
      let len = length-drop n xs in
      let front : n ≤ prefix_len p xs = omega (arith, counted xs split_up) in
      let whole : prefix_len p xs ≤ length xs = prefix_len-le-length p xs in
      sym (counted xs split_up ∙ prefix_len_is p xs (n + i) d (omega (arith, len))
      (λ k lt. elim (cases_lt k n) [
        | inl before ↦ prefix_len_passes p xs k d (omega arith)
        | inr from ↦
            let at : n + (k - n) ≡ k = omega arith in
            subst (λ (m : ℕ). p (get_or xs m d) ≡ true) at (sym (ap p (get_or-drop n xs (k - n) d)) ∙ point.0 (k - n) d (omega arith) (omega arith))
      ])
      (λ lt. sym (ap p (get_or-drop n xs i d)) ∙ point.1 i d (omega arith) (omega (arith, len))))
