use Rattle.std.proofs.Common.{◌∙◌, sym, ap}
use Rattle.std.specs.Ordering.{is_lt}
use Rattle.iv_lines.specs.RecordValue.{record_cmp}
use Rattle.iv_track.specs.Tracked.{Tracked, next_after}
use Rattle.iv_track.proofs.TrackLemmas.{next-entry}
use Rattle.iv_track.proofs.track.Track.after.Goals as goal

pub returns-in_err-next-clause-next : goal.returns-in_err-next-clause-next
returns-in_err-next-clause-next g c =
    let i = c.self.inside in
    rw c.from_residual.ensures (
    c.in_err-next.ensures.entry
    ∙ sym (next-entry (λ q. is_lt (record_cmp c.args.feature.now q)) i.ledger i.len i.width i.limit c.self.invariant.track)
    ∙ ap (λ (t : Tracked). next_after t.records c.args.feature.now) c.self.view_is
    )

pub returns-clause-next : goal.returns-clause-next
returns-clause-next g c =
    let i = c.self.inside in
    c.in_ok-next.ensures.entry
    ∙ sym (next-entry (λ q. is_lt (record_cmp c.args.feature.now q)) i.ledger i.len i.width i.limit c.self.invariant.track)
    ∙ ap (λ (t : Tracked). next_after t.records c.args.feature.now) c.self.view_is
