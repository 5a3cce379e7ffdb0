-- A map from keys to numbers of copies, and the list that it means.
use Rattle.std.proofs.Common.{◌≡◌, ℕ, ◌+◌, ◌*◌, ◌<◌, Bool, true, false, cond, List, [], ◌∷◌, ◌++◌, Option, Some, None, length, refl, sym, ap, ◌∙◌, subst, arith, add-one, zero, suc}
use Rattle.std.specs.Prelude.{All, count_by, sum, replicate, unwrap_or, find, option_map}
use Rattle.std.specs.List.{position_or_len, AllByRecursion}
use Rattle.std.specs.declared.cmp.Ordering.{Ordering}
use Rattle.std.specs.declared.cmp.Ordering.TheVariants.{Less, Equal, Greater}
use Rattle.std.specs.Ordering.{is_eq, is_le, match_ordering}
use Rattle.std.specs.Cmp.{IsTotalOrder, eq_by_cmp_equiv, tied_itself, Equal-is, alike_right}
use Rattle.std.specs.List.Sorted.{IsStrictlySortedBy}
use Rattle.std.specs.Map.{keys_of, values_of, lookup, remove_entry, set_value}
use Rattle.std.specs.BTreeMap.{insert_entry, is_at}
use Rattle.std.proofs.lemmas.Map.{lookup-none}
use Rattle.std.proofs.lemmas.Map.Keys.{sorted_head, sorted_tail, IsDistinct-from_sorted}
use Rattle.std.proofs.lemmas.Map.Entries.{none_past_head, none_below_head, lookup_from_place}
use Rattle.std.proofs.lemmas.Map.Lookups.{CmpEqualImpliesEq}
use Rattle.std.proofs.lemmas.List.{length-append}
use Rattle.std.proofs.lemmas.List.Elements.{All-head, All-tail}
use Rattle.std.proofs.lemmas.List.Sums.{sum_by-append, sum_by-cons}
use Rattle.std.proofs.lemmas.List.Folds.{sum_by-replicate, find_at}
use Rattle.std.proofs.Math.ListN.{length-replicate}
use Rattle.iv_lines.specs.Ordered.{added_by, InOrder}
use Rattle.iv_lines.specs.Inside.Ordered.{copies_by}
use Rattle.iv_lines.proofs.OrderedLemmas.{one_list, copies-added, in_order-added, all-weaker, copies-cons}
use Rattle.iv_track.specs.Copies.{removed_by, expanded}

-- ---- how many

times_test : (b : Bool) (n : ℕ) → n * cond b 1 0 ≡ cond b n 0
times_test true n = omega arith
times_test false n = omega arith

first_or_rest : (b : Bool) (n : ℕ) (rest : Option ℕ) → (b ≡ true → rest ≡ None) → cond b n 0 + unwrap_or rest 0 ≡ unwrap_or (cond b (Some n) rest) 0
first_or_rest true n rest h = let e : unwrap_or rest 0 ≡ 0 = ap (λ o. unwrap_or o 0) (h refl) in omega (arith, e)
first_or_rest false n rest h = omega arith

-- how many of some equal ones and others pass a test
pub count-front : {K : Type 0} (p : K → Bool) (n : ℕ) (k : K) (xs : List K) → count_by p (replicate n k ++ xs) ≡ cond (p k) n 0 + count_by p xs
count-front p n k xs =
    sum_by-append (λ q. cond (p q) 1 0) (replicate n k) xs
    ∙ ap (λ m. m + count_by p xs) (sum_by-replicate (λ q. cond (p q) 1 0) n k ∙ times_test (p k) n)

module _ {K : Type 0} (cmp : K → K → Ordering) where
  -- a key's number of copies is the value at the key
  pub copies-expanded : IsTotalOrder cmp → (es : List (K × ℕ)) (x : K) → IsStrictlySortedBy cmp (keys_of es) → copies_by cmp (expanded es) x ≡ unwrap_or (lookup (is_at (cmp x)) es) 0
  copies-expanded o [] x s = refl
  copies-expanded o (e ∷ es) x s =
      count-front (λ q. is_eq (cmp x q)) e.1 e.0 (expanded es)
      ∙ ap (λ m. cond (is_eq (cmp x e.0)) e.1 0 + m) (copies-expanded o es x (sorted_tail cmp e.0 (keys_of es) s))
      ∙ first_or_rest (is_eq (cmp x e.0)) e.1 (lookup (is_at (cmp x)) es) (λ h. lookup-none (is_at (cmp x)) es (none_past_head (eq_by_cmp_equiv o) x e es (IsDistinct-from_sorted cmp (keys_of (e ∷ es)) s) h))

pub length-expanded : {K : Type 0} (es : List (K × ℕ)) → length (expanded es) ≡ sum (values_of es)
length-expanded [] = refl
length-expanded (e ∷ es) =
    length-append (replicate e.1 e.0) (expanded es)
    ∙ (λ i. length-replicate e.1 e.0 i + length-expanded es i)
    ∙ sym (sum_by-cons (λ n. n) e.1 (values_of es))

-- ---- one more

module _ {K : Type 0} (cmp : K → K → Ordering) (p : K → Bool) where
  count_step : (b : Bool) (x q : K) (xs ys : List K) → count_by p ys ≡ cond (p x) 1 0 + count_by p xs → count_by p (cond b (x ∷ q ∷ xs) (q ∷ ys)) ≡ cond (p x) 1 0 + count_by p (q ∷ xs)
  count_step true x q xs ys h = sum_by-cons (λ k. cond (p k) 1 0) x (q ∷ xs)
  count_step false x q xs ys h = omega (arith, sum_by-cons (λ k. cond (p k) 1 0) q ys, sum_by-cons (λ k. cond (p k) 1 0) q xs, h)

  -- how many pass a test, with one more in order
  pub count-added : (xs : List K) (x : K) → count_by p (added_by cmp xs x) ≡ cond (p x) 1 0 + count_by p xs
  count-added [] x = sum_by-cons (λ k. cond (p k) 1 0) x []
  count-added (q ∷ xs) x = count_step (is_le (cmp x q)) x q xs (added_by cmp xs x) (count-added xs x)

module _ {K : Type 0} (cmp : K → K → Ordering) where
  added-here : (m : ℕ) (k x : K) (xs : List K) → 0 < m → is_le (cmp x k) ≡ true → added_by cmp (replicate m k ++ xs) x ≡ x ∷ (replicate m k ++ xs)
  added-here zero k x xs h le = absurd (omega arith)
  added-here (suc m) k x xs h le = ap (λ b. cond b (x ∷ k ∷ (replicate m k ++ xs)) (k ∷ added_by cmp (replicate m k ++ xs) x)) le

  added-past : (m : ℕ) (k x : K) (xs : List K) → is_le (cmp x k) ≡ false → added_by cmp (replicate m k ++ xs) x ≡ replicate m k ++ added_by cmp xs x
  added-past zero k x xs gt = refl
  added-past (suc m) k x xs gt =
      ap (λ b. cond b (x ∷ k ∷ (replicate m k ++ xs)) (k ∷ added_by cmp (replicate m k ++ xs) x)) gt
      ∙ ap (λ ys. k ∷ ys) (added-past m k x xs gt)

  -- one more in the map is one more in the list
  pub expanded-insert : IsTotalOrder cmp → CmpEqualImpliesEq cmp → (es : List (K × ℕ)) (x : K) → IsStrictlySortedBy cmp (keys_of es) → All (λ n. 0 < n) (values_of es) → expanded (insert_entry cmp es x (unwrap_or (lookup (is_at (cmp x)) es) 0 + 1)) ≡ added_by cmp (expanded es) x
  expanded-insert o exact [] x s p = refl
  expanded-insert o exact (e ∷ es) x s p =
      let rest : Option ℕ = lookup (is_at (cmp x)) es in
      let some : 0 < e.1 = All-head (λ n. 0 < n) e.1 (values_of es) p in
      elim (cmp x e.0) as (λ r. cmp x e.0 ≡ r → expanded (match_ordering r ((x, unwrap_or (cond (is_eq r) (Some e.1) rest) 0 + 1) ∷ e ∷ es) ((e.0, unwrap_or (cond (is_eq r) (Some e.1) rest) 0 + 1) ∷ es) (e ∷ insert_entry cmp es x (unwrap_or (cond (is_eq r) (Some e.1) rest) 0 + 1))) ≡ added_by cmp (replicate e.1 e.0 ++ expanded es) x) [
        | Less ↦ λ h.
            let none : rest ≡ None = lookup-none (is_at (cmp x)) es (none_below_head o x e es s h).1 in
            ap (λ v. replicate (unwrap_or v 0 + 1) x ++ (replicate e.1 e.0 ++ expanded es)) none
            ∙ sym (added-here e.1 e.0 x (expanded es) some (ap is_le h))
        | Equal ↦ λ h.
            ap (λ n. replicate n e.0 ++ expanded es) (add-one e.1)
            ∙ ap (λ k. k ∷ (replicate e.1 e.0 ++ expanded es)) (sym (exact x e.0 h))
            ∙ sym (added-here e.1 e.0 x (expanded es) some (ap is_le h))
        | Greater ↦ λ h.
            ap (λ ys. replicate e.1 e.0 ++ ys) (expanded-insert o exact es x (sorted_tail cmp e.0 (keys_of es) s) (All-tail (λ n. 0 < n) e.1 (values_of es) p))
            ∙ sym (added-past e.1 e.0 x (expanded es) (ap is_le h))
      ] refl

  -- ---- one less

  removed-here : (m : ℕ) (k x : K) (xs : List K) → is_eq (cmp x k) ≡ true → removed_by cmp (replicate (suc m) k ++ xs) x ≡ replicate m k ++ xs
  removed-here m k x xs h = ap (λ b. cond b (replicate m k ++ xs) (k ∷ removed_by cmp (replicate m k ++ xs) x)) h

  removed-past : (m : ℕ) (k x : K) (xs : List K) → is_eq (cmp x k) ≡ false → removed_by cmp (replicate m k ++ xs) x ≡ replicate m k ++ removed_by cmp xs x
  removed-past zero k x xs h = refl
  removed-past (suc m) k x xs h =
      ap (λ b. cond b (replicate m k ++ xs) (k ∷ removed_by cmp (replicate m k ++ xs) x)) h
      ∙ ap (λ ys. k ∷ ys) (removed-past m k x xs h)

  -- the last copy goes with its entry
  pub expanded-remove_entry : (es : List (K × ℕ)) (x : K) → lookup (is_at (cmp x)) es ≡ Some 1 → expanded (remove_entry (is_at (cmp x)) es) ≡ removed_by cmp (expanded es) x
  expanded-remove_entry [] x = λ h. refl
  expanded-remove_entry (e ∷ es) x =
      elim (is_eq (cmp x e.0)) as (λ b. is_eq (cmp x e.0) ≡ b → cond b (Some e.1) (lookup (is_at (cmp x)) es) ≡ Some 1 → expanded (cond b es (e ∷ remove_entry (is_at (cmp x)) es)) ≡ removed_by cmp (replicate e.1 e.0 ++ expanded es) x) [
        | true ↦ λ here h.
            let one : e.1 ≡ 1 = cc in
            sym (removed-here 0 e.0 x (expanded es) here) ∙ ap (λ n. removed_by cmp (replicate n e.0 ++ expanded es) x) (sym one)
        | false ↦ λ past h.
            ap (λ ys. replicate e.1 e.0 ++ ys) (expanded-remove_entry es x h)
            ∙ sym (removed-past e.1 e.0 x (expanded es) past)
      ] refl

  -- one copy of several leaves a number that is one less
  pub expanded-set_value : (es : List (K × ℕ)) (x : K) (n : ℕ) → lookup (is_at (cmp x)) es ≡ Some (suc n) → expanded (set_value (is_at (cmp x)) es n) ≡ removed_by cmp (expanded es) x
  expanded-set_value [] x n = λ h. refl
  expanded-set_value (e ∷ es) x n =
      elim (is_eq (cmp x e.0)) as (λ b. is_eq (cmp x e.0) ≡ b → cond b (Some e.1) (lookup (is_at (cmp x)) es) ≡ Some (suc n) → expanded (cond b ((e.0, n) ∷ es) (e ∷ set_value (is_at (cmp x)) es n)) ≡ removed_by cmp (replicate e.1 e.0 ++ expanded es) x) [
        | true ↦ λ here h.
            let more : e.1 ≡ suc n = cc in
            sym (removed-here n e.0 x (expanded es) here) ∙ ap (λ m. removed_by cmp (replicate m e.0 ++ expanded es) x) (sym more)
        | false ↦ λ past h.
            ap (λ ys. replicate e.1 e.0 ++ ys) (expanded-set_value es x n h)
            ∙ sym (removed-past e.1 e.0 x (expanded es) past)
      ] refl

  -- ---- how long the lists are

  length_removed_step : (b : Bool) (q : K) (xs ys : List K) (n : ℕ) → 0 < cond b 1 0 + n → (0 < n → length ys + 1 ≡ length xs) → length (cond b xs (q ∷ ys)) + 1 ≡ length (q ∷ xs)
  length_removed_step true q xs ys n h more = omega arith
  length_removed_step false q xs ys n h more = let e : length ys + 1 ≡ length xs = more (omega arith) in omega arith

  pub length-removed : (xs : List K) (x : K) → 0 < copies_by cmp xs x → length (removed_by cmp xs x) + 1 ≡ length xs
  length-removed [] x h = absurd (omega arith)
  length-removed (q ∷ xs) x h =
      length_removed_step (is_eq (cmp x q)) q xs (removed_by cmp xs x) (copies_by cmp xs x)
      (subst (λ m. 0 < m) (sum_by-cons (λ y. cond (is_eq (cmp x y)) 1 0) q xs) h) (length-removed xs x)

  -- ---- the first that passes a test

  find-past : (p : K → Bool) (m : ℕ) (k : K) (xs : List K) → p k ≡ false → find p (replicate m k ++ xs) ≡ find p xs
  find-past p zero k xs h = refl
  find-past p (suc m) k xs h = ap (λ b. cond b (Some k) (find p (replicate m k ++ xs))) h ∙ find-past p m k xs h

  find-here : (p : K → Bool) (m : ℕ) (k : K) (xs : List K) → 0 < m → p k ≡ true → find p (replicate m k ++ xs) ≡ Some k
  find-here p zero k xs some h = absurd (omega arith)
  find-here p (suc m) k xs some h = ap (λ b. cond b (Some k) (find p (replicate m k ++ xs))) h

  -- the first element that passes is the key of the first entry that does
  pub find-expanded : (p : K → Bool) (es : List (K × ℕ)) → All (λ n. 0 < n) (values_of es) → find p (expanded es) ≡ option_map (λ e. e.0) (find (λ e. p e.0) es)
  find-expanded p [] h = refl
  find-expanded p (e ∷ es) h =
      elim (p e.0) as (λ b. p e.0 ≡ b → find p (replicate e.1 e.0 ++ expanded es) ≡ option_map (λ f. f.0) (cond b (Some e) (find (λ f. p f.0) es))) [
        | true ↦ λ here. find-here p e.1 e.0 (expanded es) (All-head (λ n. 0 < n) e.1 (values_of es) h) here
        | false ↦ λ past. find-past p e.1 e.0 (expanded es) past ∙ find-expanded p es (All-tail (λ n. 0 < n) e.1 (values_of es) h)
      ] refl

  -- an entry that a search finds has the number of copies of its key
  pub copies-found : IsTotalOrder cmp → (p : K × ℕ → Bool) (es : List (K × ℕ)) (k : K) (n : ℕ) → IsStrictlySortedBy cmp (keys_of es) → find p es ≡ Some (k, n) → copies_by cmp (expanded es) k ≡ n
  copies-found o p es k n s h =
      copies-expanded cmp o es k s
      ∙ ap (λ v. unwrap_or v 0) (lookup_from_place (eq_by_cmp_equiv o) es (position_or_len p es) k n (IsDistinct-from_sorted cmp (keys_of es) s) (sym (find_at p es) ∙ h))

-- ---- in order

all-front : {X : Type 0} (P : X → Type 0) (n : ℕ) (x : X) (xs : List X) → P x → AllByRecursion P xs → AllByRecursion P (replicate n x ++ xs)
all-front P zero x xs p h = h
all-front P (suc n) x xs p h = (p, all-front P n x xs p h)

pub all-expanded : {K : Type 0} (P : K → Type 0) (es : List (K × ℕ)) → AllByRecursion P (keys_of es) → AllByRecursion P (expanded es)
all-expanded P [] h = tt
all-expanded P (e ∷ es) h = all-front P e.1 e.0 (expanded es) h.0 (all-expanded P es h.1)

module _ {K : Type 0} (cmp : K → K → Ordering) where
  in_order-front : (n : ℕ) (k : K) (xs : List K) → is_le (cmp k k) ≡ true → AllByRecursion (λ y. is_le (cmp k y) ≡ true) xs → InOrder cmp xs → InOrder cmp (replicate n k ++ xs)
  in_order-front zero k xs same h o = o
  in_order-front (suc n) k xs same h o = (all-front (λ y. is_le (cmp k y) ≡ true) n k xs same h, in_order-front n k xs same h o)

  pub in_order-expanded : IsTotalOrder cmp → (es : List (K × ℕ)) → IsStrictlySortedBy cmp (keys_of es) → InOrder cmp (expanded es)
  in_order-expanded o [] s = tt
  in_order-expanded o (e ∷ es) s =
      in_order-front e.1 e.0 (expanded es) (ap is_le (tied_itself o e.0))
      (all-expanded (λ y. is_le (cmp e.0 y) ≡ true) es (all-weaker (λ y. cmp e.0 y ≡ Less) (λ y. is_le (cmp e.0 y) ≡ true) (λ y h. ap is_le h) (keys_of es) (sorted_head cmp e.0 (keys_of es) s)))
      (in_order-expanded o es (sorted_tail cmp e.0 (keys_of es) s))

-- ---- changes keep the order

module _ {K : Type 0} (cmp : K → K → Ordering) where
  pub all-removed : (P : K → Type 0) (xs : List K) (x : K) → AllByRecursion P xs → AllByRecursion P (removed_by cmp xs x)
  all-removed P [] x h = h
  all-removed P (q ∷ xs) x h = elim (is_eq (cmp x q)) as (λ b. AllByRecursion P (cond b xs (q ∷ removed_by cmp xs x))) [
    | true ↦ h.1
    | false ↦ (h.0, all-removed P xs x h.1)
  ]

  pub in_order-removed : (xs : List K) (x : K) → InOrder cmp xs → InOrder cmp (removed_by cmp xs x)
  in_order-removed [] x h = h
  in_order-removed (q ∷ xs) x h = elim (is_eq (cmp x q)) as (λ b. InOrder cmp (cond b xs (q ∷ removed_by cmp xs x))) [
    | true ↦ h.1
    | false ↦ (all-removed (λ y. is_le (cmp q y) ≡ true) xs x h.0, in_order-removed xs x h.1)
  ]

  -- one x less is one less of what compares alike, and no other
  pub copies-removed : IsTotalOrder cmp → (xs : List K) (x y : K) → 0 < copies_by cmp xs x → copies_by cmp (removed_by cmp xs x) y + cond (is_eq (cmp y x)) 1 0 ≡ copies_by cmp xs y
  copies-removed o [] x y some = absurd (omega arith)
  copies-removed o (q ∷ xs) x y some =
      (elim (is_eq (cmp x q)) as (λ b. is_eq (cmp x q) ≡ b → 0 < cond b 1 0 + copies_by cmp xs x → copies_by cmp (cond b xs (q ∷ removed_by cmp xs x)) y + cond (is_eq (cmp y x)) 1 0 ≡ copies_by cmp (q ∷ xs) y) [
        | true ↦ λ is _. omega (arith, copies-cons cmp q y xs, ap {B = ℕ} (λ (r : Ordering). cond (is_eq r) 1 0) (alike_right o x q y ((Equal-is (cmp x q)).0 is)))
        | false ↦ λ is more. omega (arith, copies-cons cmp q y xs, copies-cons cmp q y (removed_by cmp xs x), copies-removed o xs x y (omega arith))
      ]) refl (subst (λ n. 0 < n) (copies-cons cmp q x xs) some)

  -- to add one and take another that is there is to take it and then add
  pub removed-added : IsTotalOrder cmp → CmpEqualImpliesEq cmp → (xs : List K) (x y : K) → InOrder cmp xs → 0 < copies_by cmp xs y → removed_by cmp (added_by cmp xs x) y ≡ added_by cmp (removed_by cmp xs y) x
  removed-added o exact xs x y h some =
      one_list cmp o exact _ _ (in_order-removed (added_by cmp xs x) y (in_order-added cmp o xs x h)) (in_order-added cmp o (removed_by cmp xs y) x (in_order-removed xs y h))
      (λ k. omega (arith, copies-removed o (added_by cmp xs x) y k (omega (arith, copies-added cmp xs x y)), copies-added cmp xs x k, copies-added cmp (removed_by cmp xs y) x k, copies-removed o xs y k some))
