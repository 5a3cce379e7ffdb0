use Rattle.std.proofs.Common.{◌≡◌, ◌+◌, length}
use Rattle.iv_depth.specs.Inside.Edges.{Passes, Rise}
use Rattle.iv_depth.proofs.edges.pass.Given as goal

-- those in front of `left` are at the position
abbrev pub invariant-loop-item : goal.invariant-loop-item
invariant-loop-item l = record {
  passing : Rise l.position l.items → Passes l.position l.count l.position l.items l.left;
  first : l.count ≡ 0 → l.left ≡ l.items;
  len : l.count + length l.left ≡ length l.items;
}

abbrev pub decreases-loop-item : goal.decreases-loop-item
decreases-loop-item l = length l.left
