use Rattle.std.proofs.Common.{◌≡◌, ◌+◌, ◌≤◌, ◌++◌, length}
use Rattle.iv_blocks.proofs.repair.gather.Given as goal

-- what was read, and what is left, are all members, and each record that was passed has paid for its step
abbrev pub invariant-loop-feature : goal.invariant-loop-feature
invariant-loop-feature g l = record {
  all : l.records.items ++ l.members.members ≡ l.fn.members.members;
  no_less : l.fn.meter ≤ l.meter;
  paid : l.meter + l.members.passed_records ≤ l.fn.meter + l.fn.members.passed_records;
}

abbrev pub decreases-loop-feature : goal.decreases-loop-feature
decreases-loop-feature g l = length l.members.members
