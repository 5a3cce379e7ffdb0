use Rattle.std.proofs.Common.{◌∙◌, sym, ap}
use Rattle.std.specs.Prelude.{filter}
use Rattle.iv_track.specs.Copies.{expanded}
use Rattle.iv_track.specs.Tracked.{Tracked, is_from}
use Rattle.iv_track.proofs.EntryIndexLemmas.{filter-begun, filter-nowhere}
use Rattle.iv_track.proofs.StepLemmas.{takes_none, takes_one_more}
use Rattle.iv_track.proofs.WalkLemmas.{expanded-filter}
use Rattle.iv_track.proofs.track.Track.walk_from.Goals as goal

pub returns-in_default-clause-records : goal.returns-in_default-clause-records
returns-in_default-clause-records g c =
    let i = c.self.inside in
    ap expanded (c.none.ensures ∙ sym (filter-nowhere c.args.seq c.args.start i.ledger c.in_default.ensures c.self.invariant.track.placed))
    ∙ expanded-filter (is_from c.args.seq c.args.start) i.ledger
    ∙ ap (λ (t : Tracked). filter (is_from c.args.seq c.args.start) t.records) c.self.view_is

pub returns-clause-records : goal.returns-clause-records
returns-clause-records g c =
    let i = c.self.inside in
    let from = is_from c.in-Some.seq c.in-Some.start in
    c.entries_from.ensures.records
    ∙ ap (λ (t : Tracked). filter from t.records) (sym c.self.view_is)
    ∙ sym (expanded-filter from i.ledger)
    ∙ ap expanded (filter-begun c.args.seq c.args.start (c.in-Some.seq, c.in-Some.start) i.ledger c.in-Some.ensures c.self.invariant.track.placed)
    ∙ expanded-filter (is_from c.args.seq c.args.start) i.ledger
    ∙ ap (λ (t : Tracked). filter (is_from c.args.seq c.args.start) t.records) c.self.view_is

pub returns-clause-steps : goal.returns-clause-steps
returns-clause-steps g c = takes_one_more _ _ _ 0 (takes_none _) c.entries_from.ensures.step
