use Rattle.std.proofs.Common.{◌+◌, ◌*◌, ◌≤◌, length}
use Rattle.iv_blocks.specs.Inside.Groups.{between_on}
use Rattle.iv_blocks.proofs.NearSweeps.{IsNear}
use Rattle.iv_blocks.proofs.blocks.Blocks.split_block.Given as goal

-- the blocks before the open one are inserted, and each record that was passed has paid for the steps
abbrev pub invariant-feature : goal.invariant-feature
invariant-feature g l = record {
  sweep : IsNear l.fn.self l.genome l.track.records l.group l.fn.block l.fn.gone l.self l.start l.reached l.members.members;
  no_less : l.fn.meter ≤ l.meter;
  paid : l.meter + l.members.passed_records ≤ l.fn.meter + 1 + length (between_on l.group.seq l.fn.block.0 l.fn.block.1 l.track.records) + 4 * length (between_on l.group.seq l.fn.block.0 l.start l.track.records);
}

abbrev pub decreases-feature : goal.decreases-feature
decreases-feature g l = length l.members.members
