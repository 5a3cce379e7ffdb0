use Rattle.std.proofs.Common.{length}
use Rattle.iv_pair.proofs.LengthLemmas.{IsCounted}
use Rattle.iv_pair.proofs.lengths.lengths_of.Given as goal

-- all records but those that are left are counted
abbrev pub invariant-loop-record : goal.invariant-loop-record
invariant-loop-record g l = IsCounted l.lengths l.records l.track.records

abbrev pub decreases-loop-record : goal.decreases-loop-record
decreases-loop-record g l = length l.records
