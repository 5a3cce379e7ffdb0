use Rattle.std.proofs.Common.{subst}
use Rattle.iv_track.specs.Tracked.{Tracked}
use Rattle.iv_pair.specs.Inside.Lengths.{AreUpTo}
use Rattle.iv_pair.proofs.LengthLemmas.{AreLengths-up_to}
use Rattle.iv_pair.proofs.second.Second.longest.Goals as goal

pub returns : goal.returns
returns g c =
    let i = c.self.inside in
    subst (λ (t : Tracked). AreUpTo c.args.seq c.longest.result t.records) c.self.view_is
    (AreLengths-up_to i.lengths i.track.records c.args.seq c.longest.result c.self.invariant.counted c.longest.ensures)
