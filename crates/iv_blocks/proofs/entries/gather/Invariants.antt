use Rattle.std.proofs.Common.{◌≡◌, ◌++◌, length}
use Rattle.iv_blocks.proofs.entries.gather.Given as goal

-- the members that are gathered, with those that are left
abbrev pub invariant-loop-member : goal.invariant-loop-member
invariant-loop-member g l = l.gathered.items ++ l.members ≡ l.fn.members

abbrev pub decreases-loop-member : goal.decreases-loop-member
decreases-loop-member g l = length l.members
