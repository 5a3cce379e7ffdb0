use Rattle.std.proofs.Common.{◌-◌, ◌≤◌, length}
use Rattle.iv_ledger.proofs.entry_index.search_near.Given as goal

abbrev pub invariant-loop-low : goal.invariant-loop-low
invariant-loop-low g l = record { in_order : l.low ≤ l.high; in_range : l.high ≤ length l.entries }

abbrev pub decreases-loop-low : goal.decreases-loop-low
decreases-loop-low g l = l.high - l.low
