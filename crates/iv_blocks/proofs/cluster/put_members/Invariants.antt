use Rattle.std.proofs.Common.{length}
use Rattle.std.specs.List.{flat_map}
use Rattle.iv_bytes.proofs.PutLemmas.{Underway}
use Rattle.iv_blocks.specs.Inside.BlockSweeps.{numbered_row}
use Rattle.iv_blocks.proofs.cluster.put_members.Given as goal

-- the rows of the members that are left remain to be written
abbrev pub invariant-loop-member : goal.invariant-loop-member
invariant-loop-member g l = Underway (g.S.Sink.state l.fn.sink) (g.S.Sink.state l.sink)
    (flat_map (numbered_row l.genome l.number) l.members) (flat_map (numbered_row l.genome l.number) l.fn.members)

abbrev pub decreases-loop-member : goal.decreases-loop-member
decreases-loop-member g l = length l.members
