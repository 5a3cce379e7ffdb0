-- The rows of a merge.
use Rattle.std.specs.Prelude.{ℕ, ◌++◌, Bool, List, codes, decimal}
use Rattle.std.specs.List.{flat_map, range_with_len}
use Rattle.iv_lines.specs.Genome.{Sequences, seq_count, sequence_name, sequence_length}
use Rattle.iv_lines.specs.RecordValue.{RecordValue}
use Rattle.iv_cover.specs.Blocks.{blocks_below, start_of, stop_of}
use Rattle.iv_cover.specs.Columns.{results_over}
use Rattle.iv_cover.specs.declared.column.ColumnSummary.{ColumnSummary}
use Rattle.iv_blocks.specs.Groups.{group, sides, listed}
use Rattle.iv_blocks.specs.declared.options.BlockOptions.{BlockOptions}

-- the row of a block that starts at b.0, stops at b.1.0 and has the records b.1.1: the sequence's name, start and stop between
-- tabs, the results, and a line feed
abbrev pub block_row : List ℕ → List ColumnSummary → ℕ × (ℕ × List RecordValue) → List ℕ
block_row name summaries b =
    name ++ codes "\t" ++ decimal b.0 ++ codes "\t" ++ decimal b.1.0 ++ results_over name summaries b.1.1 ++ codes "\n"

-- the blocks of one side of a sequence, by start
abbrev pub side_blocks : BlockOptions → Sequences → List RecordValue → ℕ → Bool → List (ℕ × (ℕ × List RecordValue))
side_blocks o g records seq minus = blocks_below start_of stop_of o.distance (group o.stranded seq minus records) (sequence_length g seq)

-- the rows of the blocks of one side of a sequence
abbrev pub side_rows : BlockOptions → Sequences → List RecordValue → ℕ → Bool → List ℕ
side_rows o g records seq minus = flat_map (block_row (sequence_name g seq) (listed o.summaries)) (side_blocks o g records seq minus)

-- all rows of a merge: those of each sequence by rank, and within it of each side
abbrev pub merge_text : BlockOptions → Sequences → List RecordValue → List ℕ
merge_text o g records = flat_map (λ seq. flat_map (side_rows o g records seq) (sides o.stranded)) (range_with_len 0 (seq_count g))

-- all blocks: those of each sequence by rank, and within it of each side
abbrev pub all_blocks : BlockOptions → Sequences → List RecordValue → List (ℕ × (ℕ × List RecordValue))
all_blocks o g records = flat_map (λ seq. flat_map (side_blocks o g records seq) (sides o.stranded)) (range_with_len 0 (seq_count g))
