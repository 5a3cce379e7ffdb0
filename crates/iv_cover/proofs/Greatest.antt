-- The greatest of some numbers.
use Rattle.std.proofs.Common.{ℕ, ◌≤◌, map, arith, ◌≡◌, inl, inr, List, [], ◌∷◌, refl, ap}
use Rattle.std.proofs.lemmas.Bool.{cases_lt}
use Rattle.iv_lines.proofs.ListLemmas.{Mem}
use Rattle.iv_cover.specs.Blocks.{greatest}

pub greatest-bounds : {X : Type 0} (f : X → ℕ) (xs : List X) (q : X) → Mem q xs → f q ≤ greatest (map f xs)
greatest-bounds f [] q m = absurd m
greatest-bounds f (x ∷ xs) q (inl at) = omega (arith, ap f at)
greatest-bounds f (x ∷ xs) q (inr m) = omega (arith, greatest-bounds f xs q m)

pub greatest-reached : {X : Type 0} (f : X → ℕ) (xs : List X) (q : X) → Mem q xs → (r : X) × Mem r xs × (f r ≡ greatest (map f xs))
greatest-reached f [] q m = absurd m
greatest-reached f (x ∷ []) q m = (x, inl refl, omega arith)
greatest-reached f (x ∷ (y ∷ ys)) q m =
    let rest = greatest-reached f (y ∷ ys) y (inl refl) in
    elim (cases_lt (greatest (map f (y ∷ ys))) (f x)) [
      | inl over ↦ (x, inl refl, omega arith)
      | inr under ↦ (rest.0, inr rest.1, omega (arith, rest.2))
    ]
