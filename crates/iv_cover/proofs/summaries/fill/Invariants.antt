use Rattle.std.proofs.Common.{◌≡◌, ◌≤◌, ◌+◌, ◌++◌, length, vec_len, vec_capacity}
use Rattle.iv_cover.proofs.summaries.fill.Given as goal

-- the values so far, and room for the others
abbrev pub invariant-loop-value : goal.invariant-loop-value
invariant-loop-value g l = record {
  same : l.room.items ++ g.V.Values.left l.name l.column l.left ≡ g.V.Values.left l.name l.column l.values;
  room : vec_len l.room + length (g.V.Values.left l.name l.column l.left) ≤ vec_capacity l.room;
  grown : vec_capacity l.fn.room ≤ vec_capacity l.room;
}

abbrev pub decreases-loop-value : goal.decreases-loop-value
decreases-loop-value g l = length (g.V.Values.left l.name l.column l.left)
