use Rattle.iv_track.proofs.ClassLemmas.{AreCountedTo}
use Rattle.iv_track.proofs.length_classes.LengthClasses.of.Given as goal

abbrev pub invariant-loop-place : goal.invariant-loop-place
invariant-loop-place l = AreCountedTo l.classes l.records l.place-index
