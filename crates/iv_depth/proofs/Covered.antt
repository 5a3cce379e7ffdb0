-- The runs of a depth above 0.
use Rattle.std.proofs.Common.{◌≡◌, ℕ, ◌<◌, ◌≤◌, arith, nat_lt, true}
use borrow.Author.Tests.{ltb-true}
use Rattle.std.proofs.lemmas.Bool.{lt-ltb}
use Rattle.iv_cover.specs.Runs.{Run, runs}
use Rattle.iv_cover.proofs.RunsLemmas.{Tiles-runs}
use Rattle.iv_cover.proofs.TilesLemmas.{tiles-position, tiles-run}
use Rattle.iv_lines.proofs.ListLemmas.{Mem, mem-filter, mem-filter_from}
use Rattle.iv_depth.specs.DepthRows.{covered_runs}

pub covered-held : (f : ℕ → ℕ) (to p : ℕ) → p < to → 0 < f p → (run : Run) × Mem run (covered_runs f 0 to) × (run.start ≤ p) × (p < run.stop)
covered-held f to p low some =
    let found = tiles-position f 0 to p (runs f 0 to) (Tiles-runs f 0 to (omega arith)) (omega arith) low in
    let above : nat_lt 0 found.0.value ≡ true = lt-ltb 0 found.0.value (omega (arith, some, found.4)) in
    (found.0, mem-filter_from (λ run. nat_lt 0 run.value) (runs f 0 to) found.0 found.1 above, found.2, found.3)

pub covered-run : (f : ℕ → ℕ) (to : ℕ) (run : Run) → Mem run (covered_runs f 0 to)
    → (0 < run.value) × ((p : ℕ) → run.start ≤ p → p < run.stop → f p ≡ run.value)
covered-run f to run m =
    let both = mem-filter (λ run. nat_lt 0 run.value) (runs f 0 to) run m in
    (omega (arith, ltb-true 0 run.value both.1), tiles-run f 0 to (runs f 0 to) run (Tiles-runs f 0 to (omega arith)) both.0)
