use Rattle.std.proofs.Common.{length, map}
use Rattle.std.specs.List.{flat_map}
use Rattle.iv_bytes.proofs.PutLemmas.{Underway}
use Rattle.iv_cover.specs.Inside.TrackBlocks.{blocks_of}
use Rattle.iv_blocks.specs.Inside.BlockSweeps.{interval_of, interval_row}
use Rattle.iv_blocks.proofs.merge_sweep.put_merge.Given as goal

-- the rows of the blocks that are left remain to be written
abbrev pub invariant-loop-block : goal.invariant-loop-block
invariant-loop-block g l = Underway (g.S.Sink.state l.fn.sink) (g.S.Sink.state l.sink)
    (flat_map (interval_row l.genome) (map interval_of l.blocks))
    (flat_map (interval_row l.genome) (map interval_of (blocks_of l.distance l.genome l.records)))

abbrev pub decreases-loop-block : goal.decreases-loop-block
decreases-loop-block g l = length l.blocks
