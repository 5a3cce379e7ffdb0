-- Lists in order, and what holds of each of their elements.
use Rattle.std.proofs.Common.{◌≡◌, inl, inr, Bool, true, List, [], ◌∷◌, filter, Ordering, refl, sym, subst}
use Rattle.std.specs.List.{AllByRecursion}
use Rattle.std.specs.Ordering.{is_le}
use Rattle.std.proofs.lemmas.Bool.{cond-true, cond-false, cases_Bool}
use Rattle.iv_lines.specs.Ordered.{InOrder}
use Rattle.iv_lines.proofs.ListLemmas.{Mem, mem-filter}

pub all-recursion : {X : Type 0} (P : X → Type 0) (xs : List X) → AllByRecursion P xs → (q : X) → Mem q xs → P q
all-recursion P [] all q m = absurd m
all-recursion P (x ∷ xs) all q (inl at) = subst P at all.0
all-recursion P (x ∷ xs) all q (inr m) = all-recursion P xs all.1 q m

pub recursion-all : {X : Type 0} (P : X → Type 0) (xs : List X) → ((q : X) → Mem q xs → P q) → AllByRecursion P xs
recursion-all P [] each = tt
recursion-all P (x ∷ xs) each = (each x (inl refl), recursion-all P xs (λ q m. each q (inr m)))

-- what passes a test stays in order
pub in_order-filter : {K : Type 0} (cmp : K → K → Ordering) (p : K → Bool) (xs : List K) → InOrder cmp xs → InOrder cmp (filter p xs)
in_order-filter cmp p [] h = h
in_order-filter cmp p (x ∷ xs) h = elim (cases_Bool (p x)) [
  | inl e ↦ subst (InOrder cmp) (sym (cond-true (p x) (x ∷ filter p xs) (filter p xs) e))
      (recursion-all (λ y. is_le (cmp x y) ≡ true) (filter p xs) (λ q m. all-recursion (λ y. is_le (cmp x y) ≡ true) xs h.0 q (mem-filter p xs q m).0), in_order-filter cmp p xs h.1)
  | inr e ↦ subst (InOrder cmp) (sym (cond-false (p x) (x ∷ filter p xs) (filter p xs) e)) (in_order-filter cmp p xs h.1)
]
