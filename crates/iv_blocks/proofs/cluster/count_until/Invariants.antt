use Rattle.std.proofs.Common.{◌≡◌, ◌+◌, length}
use Rattle.std.specs.List.{take_while}
use Rattle.iv_blocks.specs.Inside.BlockCursor.{starts_until, drop_while, TakesForEach}
use Rattle.iv_blocks.proofs.cluster.count_until.Given as goal

abbrev pub invariant-loop-count : goal.invariant-loop-count
invariant-loop-count g l = record {
  count : l.count + length (take_while (starts_until l.seq l.position) l.ahead) ≡ length (take_while (starts_until l.seq l.position) l.fn.ahead);
  past : drop_while (starts_until l.seq l.position) l.fn.ahead ≡ drop_while (starts_until l.seq l.position) l.ahead;
  steps : TakesForEach l.fn.meter l.meter l.fn.ahead l.ahead;
}

abbrev pub decreases-loop-count : goal.decreases-loop-count
decreases-loop-count g l = length l.ahead
