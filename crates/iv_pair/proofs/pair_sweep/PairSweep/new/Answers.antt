use Rattle.std.proofs.Common.{◌≡◌, rules}
use Rattle.iv_pair.specs.declared.intersect.IntersectOutput.TheVariants.{Count}
use Rattle.iv_pair.specs.declared.pair_rows.PairOutput.TheVariants.{Intersect}
use Rattle.iv_pair.proofs.CountLemmas.{AreEndsOf-moved}
use Rattle.iv_pair.proofs.pair_sweep.PairSweep.new.Goals.{in-Intersect-Count+in_ok-ends_of-in-Intersect-Count, in_default+in_ok-with_capacity-in_default}
use Rattle.iv_pair.proofs.pair_sweep.PairSweep.new.Goals as goal

pub invariant_of-result : goal.invariant_of-result
invariant_of-result g c = elim c.match-output.branch [
  | in-Intersect-Count+in_ok-ends_of-in-Intersect-Count w ↦
      let output : c.args.output ≡ Intersect Count = search rules in
      let made = w.in_ok-ends_of-in-Intersect-Count in
      record {
        ordered = c.requires;
        fits = rw w.room-is (output, AreEndsOf-moved made.field-0.items w.places.result.now c.args.second w.places.ensures.spots made.ensures.moved made.ensures.ordered);
      }
  | in_default+in_ok-with_capacity-in_default w ↦ record { ordered = c.requires; fits = rw w.room-is w.in_ok-with_capacity-in_default.ensures.items }
]
