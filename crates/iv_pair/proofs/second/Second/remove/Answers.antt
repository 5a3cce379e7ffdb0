use Rattle.std.proofs.Common.{◌≤◌, length, arith, sym, subst}
use Rattle.iv_lines.specs.RecordValue.{record_cmp}
use Rattle.iv_track.specs.Tracked.{Tracked}
use Rattle.iv_track.proofs.Counts.{length-removed}
use Rattle.iv_pair.proofs.second.Second.remove.Goals as goal

pub invariant_of-self-2 : goal.invariant_of-self-2
invariant_of-self-2 g c = record {
  counted = c.remove_record.ensures.counted;
  few = subst (λ (t : Tracked). length t.records ≤ t.limit) (sym c.in_ok-remove_record.ensures.ok)
      (omega (arith, length-removed record_cmp c.self.inside.track.records c.args.feature.now c.in_ok-remove_record.ensures.there, c.self.invariant.few));
}
