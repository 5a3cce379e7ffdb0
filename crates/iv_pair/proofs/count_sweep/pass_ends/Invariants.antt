use Rattle.std.proofs.Common.{◌-◌, ◌≤◌, length}
use Rattle.std.specs.Prelude.{count_by}
use Rattle.iv_pair.specs.Inside.Counts.{end_by}
use Rattle.iv_pair.proofs.count_sweep.pass_ends.Given as goal

-- so many are at the position or before it
abbrev pub invariant-loop-passed : goal.invariant-loop-passed
invariant-loop-passed l = l.passed ≤ count_by (end_by l.seq l.at) l.ends

abbrev pub decreases-loop-passed : goal.decreases-loop-passed
decreases-loop-passed l = length l.ends - l.passed
