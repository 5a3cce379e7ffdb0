use Rattle.std.proofs.Common.{◌≡◌, map, length}
use Rattle.iv_view.specs.Merge.{said_by, nothing_said}
use Rattle.iv_view.proofs.merge.MergeArgs.read.Given as goal

abbrev pub invariant-options : goal.invariant-options
invariant-options l = said_by (map (λ argument. argument.now) l.rest) l.said ≡ said_by (map (λ argument. argument.now) l.fn.arguments) nothing_said

abbrev pub decreases-options : goal.decreases-options
decreases-options l = length l.rest
