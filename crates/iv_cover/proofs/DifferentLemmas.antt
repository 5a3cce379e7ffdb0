-- The different values: one list ascends strictly and has the values' members.
use Rattle.std.proofs.Common.{◌≡◌, ℕ, zero, suc, List, [], ◌∷◌, refl, sym, ap, ◌∙◌, subst, arith, inl, inr, ◌⊎◌}
use Rattle.std.specs.List.{AllByRecursion, Contains}
use Rattle.std.specs.List.Sorted.{IsStrictlySortedBy}
use Rattle.std.specs.Ordering.{nat_cmp, ordering_reverse}
use Rattle.std.specs.declared.cmp.Ordering.{Ordering}
use Rattle.std.specs.declared.cmp.Ordering.TheVariants.{Less, Equal, Greater}
use Rattle.std.specs.Cmp.{tied_itself}
use Rattle.std.specs.Cmp.Lexicographic.{slice_cmp, nat_list_cmp_total}
use Rattle.std.proofs.lemmas.Map.Lookups.{exact_bytes}
use Rattle.std.proofs.lemmas.List.Elements.{All-from_recursion, All-contains}
use Rattle.iv_lines.proofs.OrderedLemmas.{all-weaker}
use Rattle.iv_cover.specs.Summaries.{with_value, different}

-- ---- members

here : {X : Type 0} (x : X) (xs : List X) → Contains (x ∷ xs) x
here x xs = (0, omega arith, refl)

later : {X : Type 0} (y x : X) (xs : List X) → Contains xs x → Contains (y ∷ xs) x
later y x xs (k, low, is) = (suc k, omega arith, is)

cases : {X : Type 0} (y x : X) (xs : List X) → Contains (y ∷ xs) x → (y ≡ x) ⊎ Contains xs x
cases y x xs (zero, low, is) = inl is
cases y x xs (suc k, low, is) = inr (k, omega arith, is)

none : {X : Type 0} (x : X) → Contains [] x → ⊥
none x (k, low, is) = omega arith

all-member : {X : Type 0} (P : X → Type 0) (xs : List X) (x : X) → AllByRecursion P xs → Contains xs x → P x
all-member P xs x all has = All-contains P xs x (All-from_recursion P xs all) has

-- ---- lists of texts that ascend strictly

abbrev cmp : List ℕ → List ℕ → Ordering
cmp = slice_cmp nat_cmp

abbrev pub Ascends : List (List ℕ) → Type 0
Ascends = IsStrictlySortedBy cmp

below_itself : (x : List ℕ) → cmp x x ≡ Less → ⊥
below_itself x less = absurd (cc (tied_itself nat_list_cmp_total x))

both_below : (x y : List ℕ) → cmp x y ≡ Less → cmp y x ≡ Less → ⊥
both_below x y less more = below_itself x (nat_list_cmp_total.trans x y x less more)

abbrev Same : List (List ℕ) → List (List ℕ) → Type 0
Same xs ys = (x : List ℕ) → Contains xs x → Contains ys x

heads : (x y : List ℕ) (xs ys : List (List ℕ)) → Ascends (x ∷ xs) → Ascends (y ∷ ys) → Contains (y ∷ ys) x → Contains (x ∷ xs) y → x ≡ y
unfolding IsStrictlySortedBy
heads x y xs ys g h in_y in_x = elim (cases y x ys in_y) [
  | inl e ↦ sym e
  | inr low ↦ elim (cases x y xs in_x) [
    | inl e ↦ e
    | inr high ↦ absurd (both_below x y (all-member (λ z. cmp x z ≡ Less) xs y g.0 high) (all-member (λ z. cmp y z ≡ Less) ys x h.0 low))
  ]
]

tails : (x y : List ℕ) (xs ys : List (List ℕ)) → Ascends (x ∷ xs) → x ≡ y → Same (x ∷ xs) (y ∷ ys) → Same xs ys
unfolding IsStrictlySortedBy
tails x y xs ys g e same z has = elim (cases y z ys (same z (later x z xs has))) [
  | inl is ↦ absurd (below_itself z (subst (λ w. cmp w z ≡ Less) (e ∙ is) (all-member (λ z. cmp x z ≡ Less) xs z g.0 has)))
  | inr in' ↦ in'
]

-- two lists that ascend strictly and have the same members are one list
pub one_list : (xs ys : List (List ℕ)) → Ascends xs → Ascends ys → Same xs ys → Same ys xs → xs ≡ ys
unfolding IsStrictlySortedBy
one_list [] [] g h to from = refl
one_list [] (y ∷ ys) g h to from = absurd (none y (from y (here y ys)))
one_list (x ∷ xs) [] g h to from = absurd (none x (to x (here x xs)))
one_list (x ∷ xs) (y ∷ ys) g h to from =
    let first : x ≡ y = heads x y xs ys g h (to x (here x xs)) (from y (here y ys)) in
    let rest : xs ≡ ys = one_list xs ys g.1 h.1 (tails x y xs ys g first to) (tails y x ys xs h (sym first) from) in
    λ i. first i ∷ rest i

-- ---- the different values

all-with : (P : List ℕ → Type 0) (x : List ℕ) (xs : List (List ℕ)) → P x → AllByRecursion P xs → AllByRecursion P (with_value x xs)
all-with P x [] p all = (p, tt)
all-with P x (y ∷ xs) p all = elim (cmp x y) as (λ r. AllByRecursion P (elim r [ Less ↦ x ∷ y ∷ xs | Equal ↦ y ∷ xs | Greater ↦ y ∷ with_value x xs ])) [
  | Less ↦ (p, all)
  | Equal ↦ all
  | Greater ↦ (all.0, all-with P x xs p all.1)
]

ascends-with : (x : List ℕ) (xs : List (List ℕ)) → Ascends xs → Ascends (with_value x xs)
unfolding IsStrictlySortedBy
ascends-with x [] g = (tt, tt)
ascends-with x (y ∷ xs) g = (elim (cmp x y) as (λ r. cmp x y ≡ r → Ascends (elim r [ Less ↦ x ∷ y ∷ xs | Equal ↦ y ∷ xs | Greater ↦ y ∷ with_value x xs ])) [
  | Less ↦ λ less. ((less, all-weaker (λ z. cmp y z ≡ Less) (λ z. cmp x z ≡ Less) (λ z more. nat_list_cmp_total.trans x y z less more) xs g.0), g)
  | Equal ↦ λ tied. g
  | Greater ↦ λ more. (all-with (λ z. cmp y z ≡ Less) x xs (nat_list_cmp_total.antisymm y x ∙ ap ordering_reverse more) g.0, ascends-with x xs g.1)
]) refl

contains-with : (x : List ℕ) (xs : List (List ℕ)) (z : List ℕ) → Contains (x ∷ xs) z → Contains (with_value x xs) z
contains-with x [] z has = has
contains-with x (y ∷ xs) z has = (elim (cmp x y) as (λ r. cmp x y ≡ r → Contains (elim r [ Less ↦ x ∷ y ∷ xs | Equal ↦ y ∷ xs | Greater ↦ y ∷ with_value x xs ]) z) [
  | Less ↦ λ less. has
  | Equal ↦ λ tied. elim (cases x z (y ∷ xs) has) [
    | inl is ↦ subst (Contains (y ∷ xs)) (sym (exact_bytes x y tied) ∙ is) (here y xs)
    | inr old ↦ old
  ]
  | Greater ↦ λ more. elim (cases x z (y ∷ xs) has) [
    | inl is ↦ later y z (with_value x xs) (contains-with x xs z (subst (Contains (x ∷ xs)) is (here x xs)))
    | inr old ↦ elim (cases y z xs old) [
      | inl is ↦ subst (Contains (y ∷ with_value x xs)) is (here y (with_value x xs))
      | inr deep ↦ later y z (with_value x xs) (contains-with x xs z (later x z xs deep))
    ]
  ]
]) refl

contains-from_with : (x : List ℕ) (xs : List (List ℕ)) (z : List ℕ) → Contains (with_value x xs) z → Contains (x ∷ xs) z
contains-from_with x [] z has = has
contains-from_with x (y ∷ xs) z has = (elim (cmp x y) as (λ r. Contains (elim r [ Less ↦ x ∷ y ∷ xs | Equal ↦ y ∷ xs | Greater ↦ y ∷ with_value x xs ]) z → Contains (x ∷ y ∷ xs) z) [
  | Less ↦ λ has. has
  | Equal ↦ λ has. later x z (y ∷ xs) has
  | Greater ↦ λ has. elim (cases y z (with_value x xs) has) [
    | inl is ↦ later x z (y ∷ xs) (subst (Contains (y ∷ xs)) is (here y xs))
    | inr deep ↦ elim (cases x z xs (contains-from_with x xs z deep)) [
      | inl is ↦ subst (Contains (x ∷ y ∷ xs)) is (here x (y ∷ xs))
      | inr old ↦ later x z (y ∷ xs) (later y z xs old)
    ]
  ]
]) has

pub ascends-different : (values : List (List ℕ)) → Ascends (different values)
unfolding IsStrictlySortedBy
ascends-different [] = tt
ascends-different (value ∷ values) = ascends-with value (different values) (ascends-different values)

pub different-has : (values : List (List ℕ)) → Same values (different values)
different-has [] z has = has
different-has (value ∷ values) z has = contains-with value (different values) z (elim (cases value z values has) [
  | inl is ↦ subst (Contains (value ∷ different values)) is (here value (different values))
  | inr old ↦ later value z (different values) (different-has values z old)
])

pub different-from : (values : List (List ℕ)) → Same (different values) values
different-from [] z has = has
different-from (value ∷ values) z has = elim (cases value z (different values) (contains-from_with value (different values) z has)) [
  | inl is ↦ subst (Contains (value ∷ values)) is (here value values)
  | inr old ↦ later value z values (different-from values z old)
]
