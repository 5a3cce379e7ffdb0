-- The rows of a region, run by run.
use Rattle.std.specs.Prelude.{ℕ, ◌-◌, List, max, min, filter}
use Rattle.std.specs.List.{flat_map, range_with_len}
use Rattle.iv_cover.specs.Runs.{Run, runs}
use Rattle.iv_depth.specs.DepthRows.{run_row, position_row, covered_runs, rows_between}
use Rattle.iv_depth.specs.RegionRows.{run_shares}
use Rattle.iv_depth.specs.declared.depth_rows.DepthOutput.{DepthOutput}
use Rattle.iv_depth.specs.declared.depth_rows.DepthOutput.TheVariants.{Covered, All, EachPosition}

-- the rows of a run from `from` to `to` of this depth: its own row, or those of its positions in the region
abbrev pub run_rows : DepthOutput → List ℕ → ℕ → ℕ → ℕ → ℕ → ℕ → List ℕ
run_rows Covered name depth start stop from to = rows_between Covered name (λ _. depth) from to
run_rows All name depth start stop from to = rows_between All name (λ _. depth) from to
run_rows EachPosition name depth start stop from to = rows_between EachPosition name (λ _. depth) (max from start) (min to stop)

-- the runs of a depth above 0 that share a position with the region, from a position on
abbrev pub covered_from : (ℕ → ℕ) → ℕ → ℕ → ℕ → ℕ → List Run
covered_from f long start stop from = filter (run_shares start stop) (covered_runs f from long)

-- the rows of the region from a position on
abbrev pub rows_from : DepthOutput → List ℕ → (ℕ → ℕ) → ℕ → ℕ → ℕ → ℕ → List ℕ
rows_from Covered name f long start stop from = flat_map (run_row name) (covered_from f long start stop from)
rows_from All name f long start stop from = flat_map (run_row name) (filter (run_shares start stop) (runs f from long))
rows_from EachPosition name f long start stop from =
    flat_map (λ p. position_row name p (f p)) (range_with_len (max from start) (stop - max from start))
