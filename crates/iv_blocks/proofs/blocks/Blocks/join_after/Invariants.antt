use Rattle.std.proofs.Common.{ℕ, ◌*◌, length}
use Rattle.iv_ledger.specs.Steps.{TakesUpTo}
use Rattle.iv_blocks.specs.Inside.Lookups.{kept_in}
use Rattle.iv_blocks.specs.Inside.Repairs.{KeepsOthers}
use Rattle.iv_blocks.proofs.JoinLemmas.{IsJoining}
use Rattle.iv_blocks.proofs.blocks.Blocks.join_after.Given as goal

abbrev pub invariant-gather : goal.invariant-gather
invariant-gather g l = record {
  kept : KeepsOthers l.group l.fn.self l.self;
  taken : ℕ;
  state : IsJoining l.fn.self.options.distance (kept_in l.fn.self.entries l.group) (kept_in l.self.entries l.group) l.from l.fn.high l.high taken;
  steps : TakesUpTo l.fn.meter l.meter (2 * taken);
}

abbrev pub decreases-gather : goal.decreases-gather
decreases-gather g l = length l.self.entries
