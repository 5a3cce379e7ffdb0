use Rattle.std.proofs.Common.{◌∙◌, sym, ap, subst, lit≤}
use Rattle.std.specs.Prelude.{unwrap_or}
use Rattle.iv_track.proofs.StepLemmas.{takes_none, takes_one_more, takes_within}
use Rattle.iv_lines.specs.RecordValue.{record_cmp, records_total}
use Rattle.iv_lines.specs.Ordered.{AreInOrder, copies}
use Rattle.iv_track.specs.Tracked.{Tracked}
use Rattle.iv_track.proofs.Counts.{copies-expanded, in_order-expanded}
use Rattle.iv_track.proofs.track.Track.copies.Goals as goal

pub returns-clause-value : goal.returns-clause-value
returns-clause-value g c =
    c.unwrap_or.ensures
    ∙ ap (λ o. unwrap_or o 0) (c.copied.ensures ∙ c.get.ensures.value)
    ∙ sym (copies-expanded record_cmp records_total c.self.inside.ledger c.args.feature.now c.self.invariant.track.ordered)
    ∙ ap (λ (t : Tracked). copies t.records c.args.feature.now) c.self.view_is

pub returns-clause-steps : goal.returns-clause-steps
returns-clause-steps g c = takes_within _ _ 1 2 (lit≤ tt) (takes_one_more _ _ _ 0 (takes_none _) c.get.ensures.step)

pub returns-clause-ordered : goal.returns-clause-ordered
returns-clause-ordered g c =
    subst (λ (t : Tracked). AreInOrder t.records) c.self.view_is (in_order-expanded record_cmp records_total c.self.inside.ledger c.self.invariant.track.ordered)
