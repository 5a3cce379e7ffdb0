use Rattle.std.proofs.Common.{◌∙◌, sym, ap, subst, length}
use Rattle.iv_lines.specs.Ordered.{AreInOrder}
use Rattle.iv_track.specs.Tracked.{Tracked}
use Rattle.iv_track.proofs.Counts.{length-expanded, in_order-expanded}
use Rattle.iv_lines.specs.RecordValue.{record_cmp, records_total}
use Rattle.iv_track.proofs.track.Track.len.Goals as goal

pub returns-clause-len : goal.returns-clause-len
returns-clause-len g c =
    c.self.invariant.track.len_is ∙ sym (length-expanded c.self.inside.ledger) ∙ ap (λ (t : Tracked). length t.records) c.self.view_is

pub returns-clause-ordered : goal.returns-clause-ordered
returns-clause-ordered g c =
    subst (λ (t : Tracked). AreInOrder t.records) c.self.view_is (in_order-expanded record_cmp records_total c.self.inside.ledger c.self.invariant.track.ordered)
