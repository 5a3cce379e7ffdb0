use Rattle.std.proofs.Common.{◌≡◌, ◌+◌, ◌≤◌, ◌++◌, vec_len, vec_capacity}
use Rattle.std.specs.Prelude.{reverse}
use Rattle.iv_ledger.proofs.entry_index.move_tail.Given as goal

abbrev pub invariant-loop-right : goal.invariant-loop-right
invariant-loop-right g l = record {
  all : l.left.items ++ reverse l.right.items ≡ l.fn.left.items;
  kept : l.half ≤ vec_len l.left;
  room : vec_len l.left + vec_len l.right ≤ l.half + vec_capacity l.right;
}

abbrev pub decreases-loop-right : goal.decreases-loop-right
decreases-loop-right g l = vec_len l.left
