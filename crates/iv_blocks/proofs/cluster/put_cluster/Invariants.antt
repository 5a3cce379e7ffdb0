use Rattle.std.proofs.Common.{◌+◌, ◌≤◌, length}
use Rattle.iv_bytes.proofs.PutLemmas.{Underway}
use Rattle.iv_cover.specs.Inside.TrackBlocks.{blocks_of}
use Rattle.iv_blocks.specs.Inside.BlockSweeps.{numbered_rows}
use Rattle.iv_blocks.proofs.cluster.put_cluster.Given as goal

-- the rows of the blocks that are left remain to be written, and there are no more of them than records
abbrev pub invariant-loop-members : goal.invariant-loop-members
invariant-loop-members g l = record {
  put : Underway (g.S.Sink.state l.fn.sink) (g.S.Sink.state l.sink)
      (numbered_rows l.genome l.number l.blocks) (numbered_rows l.genome 0 (blocks_of l.distance l.genome l.records));
  few : l.number + length l.blocks ≤ length l.records;
}

abbrev pub decreases-loop-members : goal.decreases-loop-members
decreases-loop-members g l = length l.blocks
