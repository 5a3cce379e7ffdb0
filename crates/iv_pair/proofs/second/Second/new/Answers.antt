use Rattle.std.proofs.Common.{◌<◌, ◌^◌, ◌-◌, length, arith, sym, subst}
use Rattle.iv_track.specs.Tracked.{Tracked}
use Rattle.iv_pair.proofs.LengthLemmas.{IsSecond-new, few-ordered}
use Rattle.iv_pair.proofs.second.Second.new.Goals as goal

pub lengths_of-requires : goal.lengths_of-requires
lengths_of-requires g c =
    subst (λ (t : Tracked). length t.records < 2 ^ 32 - 1) (sym c.in_ok-track.ensures) (omega (arith, few-ordered c.args.records.records c.args.limit c.requires.few, c.requires.limit))

pub invariant_of-result : goal.invariant_of-result
invariant_of-result g c =
    IsSecond-new c.in_ok-lengths.lengths c.args.records.records c.args.records.width c.args.limit c.in_ok-track.track c.in_ok-track.ensures c.in_ok-lengths.ensures c.requires.few
