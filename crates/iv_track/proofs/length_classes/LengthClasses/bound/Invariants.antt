use Rattle.std.proofs.Common.{◌≡◌, ℕ, ◌≤◌}
use Rattle.std.specs.Prelude.{slice_index_or}
use Rattle.iv_track.proofs.length_classes.LengthClasses.bound.Given as goal

-- no class from here on has a record
abbrev pub invariant-loop-class : goal.invariant-loop-class
invariant-loop-class l = record {
  within : l.class ≤ 33;
  none : (k : ℕ) → l.class ≤ k → slice_index_or l.self-inside.counts k 0 ≡ 0;
}

abbrev pub decreases-loop-class : goal.decreases-loop-class
decreases-loop-class l = l.class
