-- Copies by any order.
use Rattle.std.specs.Prelude.{ℕ, List, count_by}
use Rattle.std.specs.declared.cmp.Ordering.{Ordering}
use Rattle.std.specs.Ordering.{is_eq}

-- how often x is in the list
abbrev pub copies_by : {K : Type 0} → (K → K → Ordering) → List K → K → ℕ
copies_by cmp xs x = count_by (λ q. is_eq (cmp x q)) xs
