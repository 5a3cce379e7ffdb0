-- Lists in order: their copies, one more, and that the copies determine the list.
use Rattle.std.proofs.Common.{◌≡◌, ℕ, ◌+◌, ◌<◌, Bool, true, false, cond, List, [], ◌∷◌, suc, length, refl, sym, ap, ◌∙◌, subst, arith, All}
use Rattle.std.specs.Prelude.{fold}
use Rattle.std.specs.List.{AllByRecursion, slice_index_or}
use Rattle.std.specs.List.Sorted.{IsSorted, IsPermutation}
use Rattle.std.proofs.lemmas.List.Sorted.{sum_by-IsPermutation}
use Rattle.std.specs.declared.cmp.Ordering.{Ordering}
use Rattle.std.specs.declared.cmp.Ordering.TheVariants.{Less, Equal, Greater}
use Rattle.std.specs.Ordering.{is_eq, is_le, is_lt, is_gt, ordering_reverse}
use Rattle.std.specs.Cmp.{IsTotalOrder, tied_itself, Equal-is, upto}
use Rattle.std.proofs.lemmas.Map.Lookups.{CmpEqualImpliesEq}
use Rattle.std.proofs.lemmas.List.Sums.{sum_by-cons}
use Rattle.std.proofs.lemmas.List.Elements.{All-from_recursion, recursion_from_All}
use Rattle.iv_lines.specs.Ordered.{added_by, InOrder, copies, ordered, AreInOrder}
use Rattle.iv_lines.specs.Inside.Ordered.{copies_by}
use Rattle.iv_lines.specs.RecordValue.{RecordValue, record_cmp, records_total}
use Rattle.iv_lines.proofs.RecordLemmas.{rows_exact}

module _ {K : Type 0} (cmp : K → K → Ordering) where
  length_tail : (b : Bool) (x q : K) (xs ys : List K) → length ys ≡ length xs + 1 → length (cond b (x ∷ q ∷ xs) (q ∷ ys)) ≡ length (q ∷ xs) + 1
  length_tail true x q xs ys h = omega arith
  length_tail false x q xs ys h = omega arith

  pub length-added : (xs : List K) (x : K) → length (added_by cmp xs x) ≡ length xs + 1
  length-added [] x = refl
  length-added (q ∷ xs) x = length_tail (is_le (cmp x q)) x q xs (added_by cmp xs x) (length-added xs x)

  copies_step : (b h : Bool) (x q y : K) (xs ys : List K) → copies_by cmp ys y ≡ cond h 1 0 + copies_by cmp xs y → is_eq (cmp y x) ≡ h → copies_by cmp (cond b (x ∷ q ∷ xs) (q ∷ ys)) y ≡ cond h 1 0 + copies_by cmp (q ∷ xs) y
  copies_step true h x q y xs ys e is =
      sum_by-cons (λ k. cond (is_eq (cmp y k)) 1 0) x (q ∷ xs) ∙ ap (λ b. cond b 1 0 + copies_by cmp (q ∷ xs) y) is
  copies_step false h x q y xs ys e is =
      let a : copies_by cmp (q ∷ ys) y ≡ cond (is_eq (cmp y q)) 1 0 + copies_by cmp ys y = sum_by-cons (λ k. cond (is_eq (cmp y k)) 1 0) q ys in
      let b : copies_by cmp (q ∷ xs) y ≡ cond (is_eq (cmp y q)) 1 0 + copies_by cmp xs y = sum_by-cons (λ k. cond (is_eq (cmp y k)) 1 0) q xs in
      omega (arith, a, b, e)

  -- one more x is one more of what compares alike, and no other
  pub copies-added : (xs : List K) (x y : K) → copies_by cmp (added_by cmp xs x) y ≡ cond (is_eq (cmp y x)) 1 0 + copies_by cmp xs y
  copies-added [] x y = sum_by-cons (λ k. cond (is_eq (cmp y k)) 1 0) x []
  copies-added (q ∷ xs) x y = copies_step (is_le (cmp x q)) (is_eq (cmp y x)) x q y xs (added_by cmp xs x) (copies-added xs x y) refl

-- what is implied by what holds of each holds of each
pub all-weaker : {X : Type 0} (P Q : X → Type 0) → ((x : X) → P x → Q x) → (xs : List X) → AllByRecursion P xs → AllByRecursion Q xs
all-weaker P Q f [] h = tt
all-weaker P Q f (x ∷ xs) h = (f x h.0, all-weaker P Q f xs h.1)

le_both : (a b : Ordering) → a ≡ ordering_reverse b → is_le a ≡ true → is_le b ≡ true → a ≡ Equal
le_both Equal b e g h = refl
le_both Less Less e g h = cc
le_both a b e g h = cc

module _ {K : Type 0} (cmp : K → K → Ordering) where
  pub copies-cons : (x k : K) (xs : List K) → copies_by cmp (x ∷ xs) k ≡ cond (is_eq (cmp k x)) 1 0 + copies_by cmp xs k
  copies-cons x k xs = sum_by-cons (λ y. cond (is_eq (cmp k y)) 1 0) x xs

  copies-own : IsTotalOrder cmp → (x : K) (xs : List K) → 0 < copies_by cmp (x ∷ xs) x
  copies-own o x xs = omega (arith, copies-cons x x xs, ap {B = ℕ} (λ (r : Ordering). cond (is_eq r) 1 0) (tied_itself o x))

  -- what holds of each holds of what has a copy
  all-at : CmpEqualImpliesEq cmp → (P : K → Type 0) (xs : List K) (y : K) → AllByRecursion P xs → 0 < copies_by cmp xs y → P y
  all-at exact P [] y h some = absurd (omega arith)
  all-at exact P (x ∷ xs) y h some =
      (elim (is_eq (cmp y x)) as (λ b. is_eq (cmp y x) ≡ b → 0 < cond b 1 0 + copies_by cmp xs y → P y) [
        | true ↦ λ is _. subst P (sym (exact y x ((Equal-is (cmp y x)).0 is))) h.0
        | false ↦ λ is more. all-at exact P xs y h.1 (omega arith)
      ]) refl (subst (λ n. 0 < n) (copies-cons x y xs) some)

  -- two lists in order with the same copies are one list
  pub one_list : IsTotalOrder cmp → CmpEqualImpliesEq cmp → (xs ys : List K) → InOrder cmp xs → InOrder cmp ys → ((k : K) → copies_by cmp xs k ≡ copies_by cmp ys k) → xs ≡ ys
  one_list o exact [] [] g h same = refl
  one_list o exact [] (y ∷ ys) g h same = absurd (omega (arith, same y, copies-own o y ys))
  one_list o exact (x ∷ xs) [] g h same = absurd (omega (arith, same x, copies-own o x xs))
  one_list o exact (x ∷ xs) (y ∷ ys) g h same =
      let up : is_le (cmp x y) ≡ true = all-at exact (λ z. is_le (cmp x z) ≡ true) (x ∷ xs) y (ap is_le (tied_itself o x), g.0) (omega (arith, same y, copies-own o y ys)) in
      let down : is_le (cmp y x) ≡ true = all-at exact (λ z. is_le (cmp y z) ≡ true) (y ∷ ys) x (ap is_le (tied_itself o y), h.0) (omega (arith, same x, copies-own o x xs)) in
      let heads : x ≡ y = exact x y (le_both (cmp x y) (cmp y x) (o.antisymm x y) up down) in
      let tails : xs ≡ ys = one_list o exact xs ys g.1 h.1 (λ k. omega (arith, same k, copies-cons x k xs, copies-cons y k ys, ap {B = ℕ} (λ z. cond (is_eq (cmp k z)) 1 0) heads)) in
      λ i. heads i ∷ tails i

le_back : (a b : Ordering) → b ≡ ordering_reverse a → is_le a ≡ false → is_le b ≡ true
le_back Less b e h = cc
le_back Equal b e h = cc
le_back Greater b e h = ap is_le e

le_gt : (a : Ordering) → is_le a ≡ true → is_gt a ≡ false
le_gt Less h = refl
le_gt Equal h = refl
le_gt Greater h = cc

gt_le : (a : Ordering) → is_gt a ≡ false → is_le a ≡ true
gt_le Less h = refl
gt_le Equal h = refl
gt_le Greater h = cc

module _ {K : Type 0} (cmp : K → K → Ordering) where
  le_chain : IsTotalOrder cmp → (x y z : K) → is_le (cmp x y) ≡ true → is_le (cmp y z) ≡ true → is_le (cmp x z) ≡ true
  le_chain o x y z g h = gt_le (cmp x z) (upto o x y z (le_gt (cmp x y) g) (le_gt (cmp y z) h))

  pub all-added : (P : K → Type 0) (xs : List K) (x : K) → P x → AllByRecursion P xs → AllByRecursion P (added_by cmp xs x)
  all-added P [] x p h = (p, tt)
  all-added P (q ∷ xs) x p h = elim (is_le (cmp x q)) as (λ b. AllByRecursion P (cond b (x ∷ q ∷ xs) (q ∷ added_by cmp xs x))) [
    | true ↦ (p, h)
    | false ↦ (h.0, all-added P xs x p h.1)
  ]

  pub in_order-added : IsTotalOrder cmp → (xs : List K) (x : K) → InOrder cmp xs → InOrder cmp (added_by cmp xs x)
  in_order-added o [] x h = (tt, tt)
  in_order-added o (q ∷ xs) x h = (elim (is_le (cmp x q)) as (λ b. is_le (cmp x q) ≡ b → InOrder cmp (cond b (x ∷ q ∷ xs) (q ∷ added_by cmp xs x))) [
    | true ↦ λ le. ((le, all-weaker (λ y. is_le (cmp q y) ≡ true) (λ y. is_le (cmp x y) ≡ true) (λ y. le_chain o x q y le) xs h.0), h)
    | false ↦ λ gt. (all-added (λ y. is_le (cmp q y) ≡ true) xs x (le_back (cmp x q) (cmp q x) (o.antisymm q x) gt) h.0, in_order-added o xs x h.1)
  ]) refl

  pub copies-all_added : (xs start : List K) (k : K) → copies_by cmp (fold (added_by cmp) start xs) k ≡ copies_by cmp start k + copies_by cmp xs k
  copies-all_added [] start k = omega arith
  copies-all_added (x ∷ xs) start k = omega (arith, copies-all_added xs (added_by cmp start x) k, copies-added cmp start x k, copies-cons cmp x k xs)

  pub all-all_added : (P : K → Type 0) (xs start : List K) → AllByRecursion P xs → AllByRecursion P start → AllByRecursion P (fold (added_by cmp) start xs)
  all-all_added P [] start of all = all
  all-all_added P (x ∷ xs) start of all = all-all_added P xs (added_by cmp start x) of.1 (all-added P start x of.0 all)

  pub length-all_added : (xs start : List K) → length (fold (added_by cmp) start xs) ≡ length start + length xs
  length-all_added [] start = omega arith
  length-all_added (x ∷ xs) start = omega (arith, length-all_added xs (added_by cmp start x), length-added cmp start x)

  pub in_order-all_added : IsTotalOrder cmp → (xs start : List K) → InOrder cmp start → InOrder cmp (fold (added_by cmp) start xs)
  in_order-all_added o [] start h = h
  in_order-all_added o (x ∷ xs) start h = in_order-all_added o xs (added_by cmp start x) (in_order-added o start x h)

-- what all records of a list have, those of the list in order have
pub ordered-all : (P : RecordValue → Type 0) (records : List RecordValue) → All P records → All P (ordered records)
ordered-all P records all = All-from_recursion P (ordered records) (all-all_added record_cmp P records [] (recursion_from_All P records all) tt)

-- ---- sorts and inserts

not_lt : (a b : Ordering) → b ≡ ordering_reverse a → is_lt a ≡ false → is_le b ≡ true
not_lt Less b e h = cc
not_lt Equal b e h = ap is_le e
not_lt Greater b e h = ap is_le e

module _ {K : Type 0} (cmp : K → K → Ordering) where
  -- a list that was sorted is in order
  pub in_order-sorted : IsTotalOrder cmp → (xs : List K) → IsSorted cmp xs → InOrder cmp xs
  in_order-sorted o [] sorted = tt
  in_order-sorted o (x ∷ []) sorted = (tt, tt)
  in_order-sorted o (x ∷ y ∷ ys) sorted =
      let later : InOrder cmp (y ∷ ys) = in_order-sorted o (y ∷ ys) (λ k d from to.
      let next : suc k + 1 ≡ suc (k + 1) = omega arith in
      let P : ℕ → Type 0 = λ n. is_lt (cmp (slice_index_or (x ∷ y ∷ ys) n d) (slice_index_or (y ∷ ys) k d)) ≡ false in
      subst P next (sorted (suc k) d (omega arith) (omega arith))) in
      let first : is_le (cmp x y) ≡ true = not_lt (cmp y x) (cmp x y) (o.antisymm x y) (sorted 0 x (omega arith) (omega arith)) in
      ((first, all-weaker (λ z. is_le (cmp y z) ≡ true) (λ z. is_le (cmp x z) ≡ true) (λ z le. le_chain cmp o x y z first le) ys later.0), later)

  pub copies-permutation : (xs ys : List K) (k : K) → IsPermutation xs ys → copies_by cmp ys k ≡ copies_by cmp xs k
  copies-permutation xs ys k moved = sum_by-IsPermutation (λ q. cond {A = ℕ} (is_eq (cmp k q)) 1 0) xs ys moved

-- ---- the order of a track

pub ordered-in_order : (records : List RecordValue) → AreInOrder (ordered records)
ordered-in_order records = in_order-all_added record_cmp records_total records [] tt

pub ordered-copies : (records : List RecordValue) (r : RecordValue) → copies (ordered records) r ≡ copies records r
ordered-copies records r = copies-all_added record_cmp records [] r ∙ omega arith

pub rows-alone : (xs ys : List RecordValue) → AreInOrder xs → AreInOrder ys → ((r : RecordValue) → copies xs r ≡ copies ys r) → xs ≡ ys
rows-alone = one_list record_cmp records_total rows_exact

-- the records of a sort are the records in order
pub ordered-sorted : (records sorted : List RecordValue) → IsPermutation records sorted → IsSorted record_cmp sorted → sorted ≡ ordered records
ordered-sorted records sorted moved up =
    rows-alone sorted (ordered records) (in_order-sorted record_cmp records_total sorted up) (ordered-in_order records)
    (λ r. copies-permutation record_cmp records sorted r moved ∙ sym (ordered-copies records r))
