use Rattle.std.proofs.Common.{◌≡◌, ◌+◌, ◌≤◌, length}
use Rattle.iv_blocks.specs.Inside.Groups.{between_on, members_between}
use Rattle.iv_blocks.specs.Inside.MembersLeft.{IsAhead}
use Rattle.iv_blocks.proofs.group.Members.next.Given as goal

-- the same members are left, and each record that was passed has paid for its step
abbrev pub invariant-loop-feature : goal.invariant-loop-feature
invariant-loop-feature g l =
    let m = l.self-inside in
    record {
      ahead : IsAhead m.group.seq m.records;
      members : members_between m.group 0 m.to m.records ≡ l.fn.self.members;
      no_less : l.fn.meter ≤ l.meter;
      paid : l.meter + length (between_on m.group.seq 0 m.to m.records) ≤ l.fn.meter + l.fn.self.passed_records;
    }

abbrev pub decreases-loop-feature : goal.decreases-loop-feature
decreases-loop-feature g l = length l.self-inside.records
