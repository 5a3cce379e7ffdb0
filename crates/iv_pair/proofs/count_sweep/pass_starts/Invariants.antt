use Rattle.std.proofs.Common.{◌-◌, ◌≤◌}
use Rattle.std.specs.Prelude.{count_by}
use Rattle.iv_pair.specs.Inside.Counts.{place_before}
use Rattle.iv_pair.proofs.count_sweep.pass_starts.Given as goal

-- so many begin before the position
abbrev pub invariant-loop-passed : goal.invariant-loop-passed
invariant-loop-passed l = l.passed ≤ count_by (place_before l.seq l.at) l.places

abbrev pub decreases-loop-passed : goal.decreases-loop-passed
decreases-loop-passed l = l.until - l.passed
