use Rattle.std.proofs.Common.{◌≡◌, ◌≤◌, ◌+◌, ◌*◌, ◌^◌, None, length}
use Rattle.iv_cover.specs.Inside.NumberFolds.{both_of, size, going}
use Rattle.iv_cover.proofs.number.NumberFold.total.Given as goal

-- what is taken, with the values that are left, is what there was
abbrev pub invariant-loop-spelled : goal.invariant-loop-spelled
invariant-loop-spelled g l = record {
  same : going (both_of l.self) l.taken (g.V.Values.left l.name l.column l.left) ≡ going (both_of l.self) None (g.V.Values.left l.name l.column l.values);
  small : size l.taken + length (g.V.Values.left l.name l.column l.left) * 10 ^ 15 ≤ length (g.V.Values.left l.name l.column l.values) * 10 ^ 15;
}

abbrev pub decreases-loop-spelled : goal.decreases-loop-spelled
decreases-loop-spelled g l = length (g.V.Values.left l.name l.column l.left)
