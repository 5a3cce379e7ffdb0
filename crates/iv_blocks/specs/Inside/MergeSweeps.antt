-- What remains to be written during a sweep. This is the state of a print, as seen by its proof.
use Rattle.std.specs.Prelude.{ℕ, List, None, filter}
use Rattle.std.specs.List.{flat_map}
use Rattle.iv_lines.specs.RecordValue.{RecordValue}
use Rattle.iv_cover.specs.Inside.RemainingBlocks.{remaining_blocks}
use Rattle.iv_cover.specs.Inside.TrackBlocks.{BlockWithMembers}
use Rattle.iv_cover.specs.declared.column.ColumnSummary.{ColumnSummary}
use Rattle.iv_blocks.specs.Groups.{is_on_side, listed, sides}
use Rattle.iv_blocks.specs.MergeRows.{block_row}
use Rattle.iv_blocks.specs.declared.options.BlockOptions.{BlockOptions}

-- the row of a block with members, on a sequence of this name
abbrev pub group_row : List ℕ → List ColumnSummary → BlockWithMembers → List ℕ
group_row name summaries b = block_row name summaries (b.start, (b.stop, b.members))

-- the rows of the blocks of records in order, all of one group
abbrev pub group_rows : BlockOptions → List ℕ → List RecordValue → List ℕ
group_rows o name records = flat_map (group_row name (listed o.summaries)) (remaining_blocks o.distance None records)

-- the rows of the blocks of records of one sequence in order, side by side
abbrev pub sequence_rows : BlockOptions → List ℕ → List RecordValue → List ℕ
sequence_rows o name records = flat_map (λ minus. group_rows o name (filter (is_on_side o.stranded minus) records)) (sides o.stranded)
