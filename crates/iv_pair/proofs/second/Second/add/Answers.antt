use Rattle.std.proofs.Common.{◌≤◌, length, arith, sym, subst}
use Rattle.iv_lines.specs.RecordValue.{record_cmp}
use Rattle.iv_lines.proofs.OrderedLemmas.{length-added}
use Rattle.iv_track.specs.Tracked.{Tracked}
use Rattle.iv_pair.proofs.second.Second.add.Goals as goal

pub invariant_of-self-2 : goal.invariant_of-self-2
invariant_of-self-2 g c = record {
  counted = c.stage.ensures.counted;
  few = subst (λ (t : Tracked). length t.records ≤ t.limit) (sym c.in_ok-stage.ensures.ok)
      (omega (arith, length-added record_cmp c.self.inside.track.records c.args.feature.now, c.if-len-limit.false, c.len.ensures.len, c.limit.ensures));
}
