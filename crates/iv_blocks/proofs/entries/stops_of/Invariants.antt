use Rattle.std.proofs.Common.{◌≡◌, ◌++◌, length, map, None}
use Rattle.iv_cover.specs.Inside.RemainingBlocks.{remaining_blocks}
use Rattle.iv_blocks.specs.Inside.UnstrandedBlocks.{stop_entry}
use Rattle.iv_blocks.proofs.entries.stops_of.Given as goal

-- the entries that are made, with those of the blocks that are left
abbrev pub invariant-loop-block : goal.invariant-loop-block
invariant-loop-block g l = l.built ++ map stop_entry l.blocks ≡ map stop_entry (remaining_blocks l.distance None l.track.records)

abbrev pub decreases-loop-block : goal.decreases-loop-block
decreases-loop-block g l = length l.blocks
