use Rattle.std.proofs.Common.{◌≡◌, ◌++◌, length, map, None}
use Rattle.iv_cover.specs.Inside.RemainingBlocks.{remaining_blocks}
use Rattle.iv_blocks.specs.Groups.{listed}
use Rattle.iv_blocks.specs.Inside.UnstrandedBlocks.{kept_entry}
use Rattle.iv_blocks.proofs.entries.entries_of.Given as goal

-- the entries that are made, with those of the blocks that are left
abbrev pub invariant-loop-block : goal.invariant-loop-block
invariant-loop-block g l =
    let entries = map (kept_entry l.genome (listed l.options.summaries)) in
    l.built ++ entries l.blocks ≡ entries (remaining_blocks l.options.distance None l.track.records)

abbrev pub decreases-loop-block : goal.decreases-loop-block
decreases-loop-block g l = length l.blocks
