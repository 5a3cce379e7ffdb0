-- The text of a depth by rank and position.
use Rattle.std.specs.Prelude.{ℕ, List}
use Rattle.std.specs.List.{flat_map, range_with_len}
use Rattle.iv_lines.specs.Genome.{Sequences, seq_count, sequence_name, sequence_length}
use Rattle.iv_depth.specs.DepthRows.{rows_between}
use Rattle.iv_depth.specs.declared.depth_rows.DepthOutput.{DepthOutput}

-- the rows of a sequence, of a depth by rank and position
abbrev pub sequence_text : DepthOutput → Sequences → (ℕ → ℕ → ℕ) → ℕ → List ℕ
sequence_text output g f seq = rows_between output (sequence_name g seq) (f seq) 0 (sequence_length g seq)

-- all rows: those of each sequence, by rank
abbrev pub text_by : DepthOutput → Sequences → (ℕ → ℕ → ℕ) → List ℕ
text_by output g f = flat_map (sequence_text output g f) (range_with_len 0 (seq_count g))
