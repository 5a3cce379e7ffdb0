-- The rows that say how many records cover each position.
use Rattle.std.specs.Prelude.{ℕ, ◌+◌, ◌-◌, ◌++◌, nat_lt, filter, List, codes, decimal}
use Rattle.std.specs.List.{flat_map, range_with_len}
use Rattle.iv_lines.specs.Genome.{Sequences, seq_count, sequence_name, sequence_length}
use Rattle.iv_lines.specs.RecordValue.{RecordValue}
use Rattle.iv_cover.specs.Depth.{depth}
use Rattle.iv_cover.specs.Runs.{Run, runs}
use Rattle.iv_depth.specs.declared.depth_rows.DepthOutput.{DepthOutput}
use Rattle.iv_depth.specs.declared.depth_rows.DepthOutput.TheVariants.{Covered, All, EachPosition}

-- the row of a run: name, start, stop and depth between tabs, and a line feed
abbrev pub run_row : List ℕ → Run → List ℕ
run_row name run =
    name ++ codes "\t" ++ decimal run.start ++ codes "\t" ++ decimal run.stop ++ codes "\t" ++ decimal run.value ++ codes "\n"

-- the row of a position: name, position counted from 1, and depth between tabs, and a line feed
abbrev pub position_row : List ℕ → ℕ → ℕ → List ℕ
position_row name p depth = name ++ codes "\t" ++ decimal (p + 1) ++ codes "\t" ++ decimal depth ++ codes "\n"

-- the maximal runs of a depth above 0
abbrev pub covered_runs : (ℕ → ℕ) → ℕ → ℕ → List Run
covered_runs f from to = filter (λ run. nat_lt 0 run.value) (runs f from to)

-- the rows of a depth f from one position to another, which is not included: of its maximal runs above 0, of all of them, or of positions
abbrev pub rows_between : DepthOutput → List ℕ → (ℕ → ℕ) → ℕ → ℕ → List ℕ
rows_between Covered name f from to = flat_map (run_row name) (covered_runs f from to)
rows_between All name f from to = flat_map (run_row name) (runs f from to)
rows_between EachPosition name f from to = flat_map (λ p. position_row name p (f p)) (range_with_len from (to - from))

-- all rows of the records' depth: those of each sequence, by rank
abbrev pub depth_text : DepthOutput → Sequences → List RecordValue → List ℕ
depth_text output g records =
    flat_map (λ seq. rows_between output (sequence_name g seq) (depth records seq) 0 (sequence_length g seq)) (range_with_len 0 (seq_count g))

-- the maximal runs of a depth above 0 on all sequences
abbrev pub all_covered_runs : Sequences → List RecordValue → List Run
all_covered_runs g records = flat_map (λ seq. covered_runs (depth records seq) 0 (sequence_length g seq)) (range_with_len 0 (seq_count g))
