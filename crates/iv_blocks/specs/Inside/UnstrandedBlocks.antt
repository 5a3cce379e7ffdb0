-- The blocks of a walk with strands together, as they are kept.
use Rattle.std.specs.Prelude.{ℕ, false, List}
use Rattle.iv_lines.specs.Genome.{Sequences, sequence_name}
use Rattle.iv_cover.specs.Inside.TrackBlocks.{BlockWithMembers}
use Rattle.iv_cover.specs.declared.column.ColumnSummary.{ColumnSummary}
use Rattle.iv_blocks.specs.KeptBlocks.{Key, Kept, kept_block}

-- the key of a block, and what is kept of it with these summaries
abbrev pub kept_entry : Sequences → List ColumnSummary → BlockWithMembers → Key × Kept
kept_entry g summaries b = ((b.sequence, false, b.start), kept_block (sequence_name g b.sequence) summaries (b.stop, b.members))

-- the key of a block, and where it stops
abbrev pub stop_entry : BlockWithMembers → Key × ℕ
stop_entry b = ((b.sequence, false, b.start), b.stop)
