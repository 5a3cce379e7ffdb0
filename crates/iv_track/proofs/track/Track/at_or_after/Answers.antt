use Rattle.std.proofs.Common.{◌∙◌, sym, ap}
use Rattle.std.specs.Prelude.{find}
use Rattle.std.specs.Ordering.{is_le}
use Rattle.iv_lines.specs.RecordValue.{RecordValue, record_cmp}
use Rattle.iv_track.specs.Tracked.{Tracked, next_from, is_from}
use Rattle.iv_track.proofs.EntryIndexLemmas.{find-begun, find-least, find-nowhere}
use Rattle.iv_track.proofs.TrackLemmas.{next-entry}
use Rattle.iv_track.proofs.track.Track.at_or_after.Goals as goal

pub returns-in_err-seq-clause-next : goal.returns-in_err-seq-clause-next
returns-in_err-seq-clause-next g c =
    let i = c.self.inside in
    rw c.from_residual.ensures (
    sym (find-nowhere c.args.seq c.args.start i.ledger c.in_err-seq.ensures c.self.invariant.track.placed)
    ∙ sym (next-entry (is_from c.args.seq c.args.start) i.ledger i.len i.width i.limit c.self.invariant.track)
    ∙ ap (λ (t : Tracked). next_from t.records c.args.seq c.args.start) c.self.view_is
    )

pub returns-in_err-feature-clause-next : goal.returns-in_err-feature-clause-next
returns-in_err-feature-clause-next g c =
    let i = c.self.inside in
    let from = c.in_ok-seq in
    rw c.from_residual-in_err-feature.ensures (
    c.in_err-feature.ensures.entry
    ∙ ap (λ (r : RecordValue). find (λ e. is_le (record_cmp r e.0)) i.ledger) c.least_at.ensures
    ∙ find-least from.seq from.start i.ledger c.self.invariant.track.placed c.self.invariant.track.wide
    ∙ find-begun c.args.seq c.args.start (from.seq, from.start) i.ledger from.ensures c.self.invariant.track.placed
    ∙ sym (next-entry (is_from c.args.seq c.args.start) i.ledger i.len i.width i.limit c.self.invariant.track)
    ∙ ap (λ (t : Tracked). next_from t.records c.args.seq c.args.start) c.self.view_is
    )

pub returns-clause-next : goal.returns-clause-next
returns-clause-next g c =
    let i = c.self.inside in
    let from = c.in_ok-seq in
    c.in_ok-feature.ensures.entry
    ∙ ap (λ (r : RecordValue). find (λ e. is_le (record_cmp r e.0)) i.ledger) c.least_at.ensures
    ∙ find-least from.seq from.start i.ledger c.self.invariant.track.placed c.self.invariant.track.wide
    ∙ find-begun c.args.seq c.args.start (from.seq, from.start) i.ledger from.ensures c.self.invariant.track.placed
    ∙ sym (next-entry (is_from c.args.seq c.args.start) i.ledger i.len i.width i.limit c.self.invariant.track)
    ∙ ap (λ (t : Tracked). next_from t.records c.args.seq c.args.start) c.self.view_is
