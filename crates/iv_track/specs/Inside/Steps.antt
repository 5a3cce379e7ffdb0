-- The steps of a walk, counted by what it has passed.
use Rattle.std.specs.Prelude.{ℕ, ◌+◌, ◌≤◌}

-- at most one step is between the two readings for each thing that isn't left, of so many in all
pub record TakesForEach (old new all left : ℕ) : Type 0 where
  pub no_less : old ≤ new
  pub at_most : new + left ≤ old + all
