use Rattle.std.proofs.Common.{◌<◌, ap, arith, length}
use Rattle.std.proofs.lemmas.Result.{err_from_is_err_and}
use Rattle.iv_track.specs.Tracked.{Tracked}
use Rattle.iv_track.proofs.TrackLemmas.{len-rows}
use Rattle.iv_track.proofs.track.Track.add.Goals as goal

pub stage-requires-clause-room : goal.stage-requires-clause-room
stage-requires-clause-room g c =
    let i = c.self.inside in
    omega (arith, len-rows i.ledger i.len i.width i.limit c.self.invariant.track, ap (λ (t : Tracked). length t.records) c.self.view_is, ap (λ (t : Tracked). t.limit) c.self.view_is, c.if-self.false)

pub returns-then-self-clause-why : goal.returns-then-self-clause-why
returns-then-self-clause-why g c =
    let i = c.self.inside in
    omega (arith, len-rows i.ledger i.len i.width i.limit c.self.invariant.track, ap (λ (t : Tracked). length t.records) c.self.view_is, ap (λ (t : Tracked). t.limit) c.self.view_is, c.if-self.true)

pub returns-in_err-stage-clause-why : goal.returns-in_err-stage-clause-why
returns-in_err-stage-clause-why g c =
    let i = c.self.inside in
    let p = err_from_is_err_and c.from_residual.result c.from_residual.ensures.1 in
    let room : length c.args.self.now.records < c.args.self.now.limit =
    omega (arith, len-rows i.ledger i.len i.width i.limit c.self.invariant.track, ap (λ (t : Tracked). length t.records) c.self.view_is, ap (λ (t : Tracked). t.limit) c.self.view_is, c.if-self.false) in
    rw (p.1, p.2) (room, c.in_err-stage.ensures.memory)

pub returns-clause-room : goal.returns-clause-room
returns-clause-room g c =
    let i = c.self.inside in
    omega (arith, len-rows i.ledger i.len i.width i.limit c.self.invariant.track, ap (λ (t : Tracked). length t.records) c.self.view_is, ap (λ (t : Tracked). t.limit) c.self.view_is, c.if-self.false)
