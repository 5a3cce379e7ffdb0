-- The rows of depth of a region, which share a position with it.
use Rattle.std.specs.Prelude.{ℕ, ◌-◌, Bool, filter, List}
use Rattle.std.specs.List.{flat_map, range_with_len}
use Rattle.iv_lines.specs.Genome.{Sequences, sequence_name, sequence_length}
use Rattle.iv_lines.specs.RecordValue.{RecordValue}
use Rattle.iv_track.specs.Regions.{shares}
use Rattle.iv_cover.specs.Depth.{depth}
use Rattle.iv_cover.specs.Runs.{Run, runs}
use Rattle.iv_depth.specs.DepthRows.{run_row, position_row, covered_runs}
use Rattle.iv_depth.specs.declared.depth_rows.DepthOutput.{DepthOutput}
use Rattle.iv_depth.specs.declared.depth_rows.DepthOutput.TheVariants.{Covered, All, EachPosition}

-- the run shares a position with the region from start to stop, which is not included
abbrev pub run_shares : ℕ → ℕ → Run → Bool
run_shares start stop run = shares start stop run.start run.stop

-- the rows of a depth f on a sequence of this name and length that share a position with the region: whole runs, or positions
abbrev pub rows_in : DepthOutput → List ℕ → (ℕ → ℕ) → ℕ → ℕ → ℕ → List ℕ
rows_in Covered name f length start stop = flat_map (run_row name) (filter (run_shares start stop) (covered_runs f 0 length))
rows_in All name f length start stop = flat_map (run_row name) (filter (run_shares start stop) (runs f 0 length))
rows_in EachPosition name f length start stop = flat_map (λ p. position_row name p (f p)) (range_with_len start (stop - start))

-- the rows of the records' depth that share a position with the region
abbrev pub depth_text_in : DepthOutput → Sequences → List RecordValue → ℕ → ℕ → ℕ → List ℕ
depth_text_in output g records seq start stop = rows_in output (sequence_name g seq) (depth records seq) (sequence_length g seq) start stop

-- the runs of a depth above 0 that share a position with the region, by which the steps of a print are counted
abbrev pub covered_runs_in : (ℕ → ℕ) → ℕ → ℕ → ℕ → List Run
covered_runs_in f length start stop = filter (run_shares start stop) (covered_runs f 0 length)
