-- Maximal runs of positions on which a function has one value.
use Rattle.std.specs.Prelude.{◌≡◌, ◌≢◌, ℕ, zero, suc, ◌+◌, ◌-◌, ◌<◌, ◌≤◌, ◌==◌, if◌then◌else◌, filter, List, [], ◌∷◌}

-- the positions from start to stop, which is not included, and the one value that a function has on them
pub record Run : Type 0 where
  pub start : ℕ
  pub stop : ℕ
  pub value : ℕ

-- one more position in front of runs: it joins the first of them exactly if the two have one value
abbrev pub joined : ℕ → ℕ → List Run → List Run
joined p value [] = record { start = p; stop = p + 1; value = value } ∷ []
joined p value (run ∷ runs) =
    if value == run.value
    then record run { start = p } ∷ runs
    else record { start = p; stop = p + 1; value = value } ∷ run ∷ runs

-- the maximal runs of f over this number of positions from p on
unfoldable pub runs_over : (ℕ → ℕ) → ℕ → ℕ → List Run
runs_over f p zero = []
runs_over f p (suc count) = joined p (f p) (runs_over f (p + 1) count)

-- the maximal runs of f from one position to another, which is not included
abbrev pub runs : (ℕ → ℕ) → ℕ → ℕ → List Run
runs f from to = runs_over f from (to - from)

-- the maximal runs on which f is 0
abbrev pub empty_runs : (ℕ → ℕ) → ℕ → ℕ → List Run
empty_runs f from to = filter (λ run. run.value == 0) (runs f from to)

-- the first of these runs, if there is one, has another value
abbrev pub BeginsOther : ℕ → List Run → Type 0
BeginsOther value [] = Unit {0}
BeginsOther value (run ∷ runs) = value ≢ run.value

-- these runs tile the positions from `from` to `to` without gap, each has a position, f has a run's value at each position of the
-- run, and neighbours have different values
abbrev pub Tiles : (ℕ → ℕ) → ℕ → ℕ → List Run → Type 0
Tiles f from to [] = from ≡ to
Tiles f from to (run ∷ runs) =
    (run.start ≡ from)
    × (run.start < run.stop)
    × ((p : ℕ) → run.start ≤ p → p < run.stop → f p ≡ run.value)
    × BeginsOther run.value runs
    × Tiles f run.stop to runs
