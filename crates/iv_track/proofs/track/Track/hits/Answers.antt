use Rattle.std.proofs.Common.{◌∙◌, ◌≤◌, List, sym, ap, subst, arith, length}
use Rattle.iv_lines.specs.Ordered.{AreInOrder}
use Rattle.iv_lines.specs.RecordValue.{RecordValue, record_cmp}
use Rattle.iv_lines.proofs.InOrderLemmas.{in_order-filter}
use Rattle.iv_track.specs.Regions.{hits, near}
use Rattle.iv_track.specs.Tracked.{is_from}
use Rattle.iv_track.specs.Inside.Tracked.{starting_before}
use Rattle.iv_track.proofs.RegionLemmas.{hits-walked, hits-few, passes-near}
use Rattle.iv_track.proofs.track.Track.hits.Goals as goal

pub invariant_of-result : goal.invariant_of-result
invariant_of-result g c =
    subst AreInOrder (sym c.walk_from.ensures.records) (in_order-filter record_cmp (is_from c.args.at.seq c.saturating_sub-from.result) c.args.self.now.records c.len-few.ensures.ordered)

pub returns-clause-records : goal.returns-clause-records
returns-clause-records g c =
    let at = c.args.at in
    ap (λ (l : List RecordValue). hits l at.seq at.start at.stop) c.walk_from.ensures.records
    ∙ hits-walked c.args.self.now.records at c.saturating_sub-from.result c.length_bound.result c.length_bound.ensures.up_to (omega (arith, c.saturating_sub-from.ensures))

pub returns-clause-passes : goal.returns-clause-passes
returns-clause-passes g c =
    let at = c.args.at in
    let records = c.args.self.now.records in
    subst (λ (l : List RecordValue). length (starting_before at l) ≤ length (near at records)) (sym c.walk_from.ensures.records)
    (passes-near records at c.saturating_sub-from.result (omega (arith, c.saturating_sub-from.ensures, c.length_bound.ensures.near)))

pub returns-clause-few : goal.returns-clause-few
returns-clause-few g c =
    let at = c.args.at in
    let records = c.args.self.now.records in
    let same = ap (λ (l : List RecordValue). hits l at.seq at.start at.stop) c.walk_from.ensures.records
    ∙ hits-walked records at c.saturating_sub-from.result c.length_bound.result c.length_bound.ensures.up_to (omega (arith, c.saturating_sub-from.ensures)) in
    omega (arith, ap (λ (l : List RecordValue). length l) same, hits-few records at.seq at.start at.stop, c.len-few.ensures.len, c.len-few.ensures.room, c.len-few.ensures.bounded)
