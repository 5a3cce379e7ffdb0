use Rattle.std.proofs.Common.{ap, length, arith}
use Rattle.iv_track.specs.Tracked.{Tracked}
use Rattle.iv_track.proofs.TrackLemmas.{len-rows}
use Rattle.iv_track.proofs.track.Track.pack.Goals as goal

pub packed-requires : goal.packed-requires
packed-requires g c =
    let i = c.self.inside in
    omega (arith, len-rows i.ledger i.len i.width i.limit c.self.invariant.track, ap (λ (t : Tracked). length t.records) c.self.view_is, ap (λ (t : Tracked). t.limit) c.self.view_is, c.if-self-2.false)
