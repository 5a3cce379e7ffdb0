-- Values that rise, each once.
use Rattle.std.proofs.Common.{◌≡◌, ℕ, Bool, true, false, cond, List, [], ◌∷◌, ◌++◌, drop, refl, sym, ap, ◌∙◌, append-nil}
use Rattle.std.specs.List.{join_with_byte}
use Rattle.std.specs.List.Sorted.{IsPermutation, IsSorted, IsSortedBy}
use Rattle.std.proofs.lemmas.List.MinMax.{ranks_by}
use Rattle.std.proofs.lemmas.Fn.{always_returns_same}
use Rattle.std.specs.Fn.{Called, ComparesAs, Mut}
use Rattle.std.specs.Borrow.{Bor}
use Rattle.std.specs.Cmp.{IsStrictWeakOrder}
use Rattle.std.specs.Cmp.Lexicographic.{slice_cmp, nat_list_cmp_total}
use Rattle.std.specs.Ordering.{nat_cmp, is_eq, is_le, is_lt}
use Rattle.std.specs.Str.{bytes_eq}
use Rattle.std.specs.declared.cmp.Ordering.{Ordering}
use Rattle.std.specs.declared.cmp.Ordering.TheVariants.{Less, Equal, Greater}
use Rattle.std.proofs.lemmas.List.Sorted.{Contains-permutation, IsPermutation-sym}
use Rattle.std.proofs.lemmas.Map.Text.{is_eq-slice_cmp}
use Rattle.std.proofs.lemmas.Slice.Eq.{bytes_eq-Decides}
use Rattle.iv_lines.specs.Bytes.{comma}
use Rattle.iv_lines.specs.Ordered.{InOrder}
use Rattle.iv_lines.proofs.OrderedLemmas.{in_order-sorted}
use Rattle.iv_cover.specs.Summaries.{with_value, different}
use Rattle.iv_cover.proofs.DifferentLemmas.{one_list, ascends-different, different-has, different-from}
use Rattle.iv_cover.specs.Inside.Results.{after_commas}

abbrev cmp : List ℕ → List ℕ → Ordering
cmp = slice_cmp nat_cmp

pub joined-is : (first : List ℕ) (others : List (List ℕ)) → join_with_byte comma (first ∷ others) ≡ first ++ after_commas others
joined-is first [] = sym (append-nil first)
joined-is first (next ∷ others) = ap (λ (l : List ℕ). first ++ (comma ∷ l)) (joined-is next others)

-- ---- the order of values

-- a value in front of a list that begins with one no less
placed : (o : Ordering) (b : Bool) (x y : List ℕ) (t : List (List ℕ)) → is_le o ≡ true → is_eq o ≡ b
    → elim o [ Less ↦ x ∷ y ∷ t | Equal ↦ y ∷ t | Greater ↦ y ∷ with_value x t ] ≡ cond b (y ∷ t) (x ∷ y ∷ t)
placed Less true x y t le eq = cc
placed Less false x y t le eq = refl
placed Equal true x y t le eq = refl
placed Equal false x y t le eq = cc
placed Greater b x y t le eq = cc

-- the first value of a list
abbrev pub begun : List ℕ → List (List ℕ) → List (List ℕ)
begun x xs = drop 1 (different (x ∷ xs))

next-is : (x y : List ℕ) (ys : List (List ℕ)) → InOrder cmp (x ∷ y ∷ ys) → different (y ∷ ys) ≡ y ∷ begun y ys
    → different (x ∷ y ∷ ys) ≡ cond (bytes_eq x y) (y ∷ begun y ys) (x ∷ y ∷ begun y ys)
next-is x y ys rise is =
    ap (with_value x) is ∙ placed (cmp x y) (bytes_eq x y) x y (begun y ys) rise.0.0 (is_eq-slice_cmp x y)

first-by : (x y : List ℕ) (ys : List (List ℕ)) → different (x ∷ y ∷ ys) ≡ cond (bytes_eq x y) (y ∷ begun y ys) (x ∷ y ∷ begun y ys)
    → (b : Bool) → bytes_eq x y ≡ b → different (x ∷ y ∷ ys) ≡ x ∷ begun x (y ∷ ys)
first-by x y ys is true e =
    let same : x ≡ y = (bytes_eq-Decides x y).0 e in
    let whole : different (x ∷ y ∷ ys) ≡ y ∷ begun y ys = is ∙ ap (λ (c : Bool). cond c (y ∷ begun y ys) (x ∷ y ∷ begun y ys)) e in
    whole ∙ ap (λ (v : List ℕ). v ∷ begun y ys) (sym same) ∙ ap (λ (l : List (List ℕ)). x ∷ drop 1 l) (sym whole)
first-by x y ys is false e =
    let whole : different (x ∷ y ∷ ys) ≡ x ∷ y ∷ begun y ys = is ∙ ap (λ (c : Bool). cond c (y ∷ begun y ys) (x ∷ y ∷ begun y ys)) e in
    whole ∙ ap (λ (l : List (List ℕ)). x ∷ drop 1 l) (sym whole)

-- the least of values that rise is the first of the different ones
pub first-is : (x : List ℕ) (xs : List (List ℕ)) → InOrder cmp (x ∷ xs) → different (x ∷ xs) ≡ x ∷ begun x xs
first-is x [] rise = refl
first-is x (y ∷ ys) rise = first-by x y ys (next-is x y ys rise (first-is y ys rise.1)) (bytes_eq x y) refl

others-cond : (b : Bool) (x y : List ℕ) (t : List (List ℕ)) → after_commas (drop 1 (cond b (y ∷ t) (x ∷ y ∷ t))) ≡ cond b [] (comma ∷ y) ++ after_commas t
others-cond true x y t = refl
others-cond false x y t = refl

-- what is after the first of them
pub others-next : (x y : List ℕ) (ys : List (List ℕ)) → InOrder cmp (x ∷ y ∷ ys)
    → after_commas (begun x (y ∷ ys)) ≡ cond (bytes_eq x y) [] (comma ∷ y) ++ after_commas (begun y ys)
others-next x y ys rise =
    ap (λ (l : List (List ℕ)). after_commas (drop 1 l)) (next-is x y ys rise (first-is y ys rise.1)) ∙ others-cond (bytes_eq x y) x y (begun y ys)

pub joined-first : (x : List ℕ) (xs : List (List ℕ)) → InOrder cmp (x ∷ xs) → join_with_byte comma (different (x ∷ xs)) ≡ x ++ after_commas (begun x xs)
joined-first x xs rise = ap (join_with_byte comma) (first-is x xs rise) ∙ joined-is x (begun x xs)

-- the different values are the same in another order
pub different-moved : (old new : List (List ℕ)) → IsPermutation old new → different new ≡ different old
different-moved old new moved =
    one_list (different new) (different old) (ascends-different new) (ascends-different old)
    (λ value has. different-has old value (Contains-permutation new old value (IsPermutation-sym old new moved) (different-from new value has)))
    (λ value has. different-has new value (Contains-permutation old new value moved (different-from old value has)))

pub sorted-rise : (values : List (List ℕ)) → IsSorted cmp values → InOrder cmp values
sorted-rise values up = in_order-sorted cmp nat_list_cmp_total values up

-- what a sort says of its closure, if each call compares two values
pub sorted-by-bytes : {F : Type 0} {g : Mut F (Bor (List ℕ) × (Bor (List ℕ) × Unit {0})) Ordering} {f : F} (values : List (List ℕ))
    → ((lt : List ℕ → List ℕ → Bool) → IsStrictWeakOrder lt → ComparesAs g lt f → IsSortedBy lt values)
    → ((a : Bor (List ℕ) × (Bor (List ℕ) × Unit {0})) (r : Ordering) (f' : F) → Called g f a r f' → (r ≡ cmp a.0.now a.1.0.now) × (f' ≡ f))
    → IsSorted cmp values
sorted-by-bytes {g = g} {f = f} values up h =
    up (λ x y. is_lt (cmp x y)) (ranks_by nat_list_cmp_total (λ (x : List ℕ). x))
    (always_returns_same g (λ a r. is_lt r ≡ is_lt (cmp a.0.now a.1.0.now)) f (λ a r f' k. (ap is_lt (h a r f' k).0, (h a r f' k).1)))
