-- Copies of one key in a list, and lists in order as different keys with their copies.
use Rattle.std.specs.Prelude.{ℕ, ◌+◌, cond, List, [], ◌∷◌, ◌++◌, replicate}
use Rattle.std.specs.declared.cmp.Ordering.{Ordering}
use Rattle.std.specs.Ordering.{is_eq}

module _ {K : Type 0} (cmp : K → K → Ordering) where
  -- the list with one x fewer
  abbrev pub removed_by : List K → K → List K
  removed_by [] x = []
  removed_by (q ∷ xs) x = cond (is_eq (cmp x q)) xs (q ∷ removed_by xs x)

  -- how many different ones a list in order has: one for each that isn't the next one too
  abbrev pub different_by : List K → ℕ
  different_by [] = 0
  different_by (x ∷ []) = 1
  different_by (x ∷ q ∷ xs) = cond (is_eq (cmp x q)) 0 1 + different_by (q ∷ xs)

-- the list that a map from keys to numbers of copies means
abbrev pub expanded : {K : Type 0} → List (K × ℕ) → List K
expanded [] = []
expanded (e ∷ es) = replicate e.1 e.0 ++ expanded es
