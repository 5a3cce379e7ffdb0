-- One call of an iterator of which it is known what it gives.
use Rattle.std.proofs.Common.{◌≡◌, List, [], ◌∷◌, Option, None, Some, refl, sym, ap}
use Rattle.std.specs.Iterator.{AlwaysYields}

module _ {S A B : Type 0} (steps : S → Option A → S → Type 0) (v : A → B) where
  -- it gave none
  pub ended : (left : List B) (s t : S) → AlwaysYields steps v s left → steps s None t → left ≡ []
  ended [] s t all step = refl
  ended (y ∷ ys) s t all step = absurd (all.0 t step)

  -- it gave the first, and goes on with the others
  pub went : (left : List B) (s t : S) (x : A) → AlwaysYields steps v s left → steps s (Some x) t → (rest : List B) × (left ≡ v x ∷ rest) × AlwaysYields steps v t rest
  went [] s t x all step = absurd (all x t step)
  went (y ∷ ys) s t x all step = (ys, ap (λ w. w ∷ ys) (sym (all.1 x t step).0), (all.1 x t step).1)
