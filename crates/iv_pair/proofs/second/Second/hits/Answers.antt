use Rattle.std.proofs.Common.{◌∙◌, List, sym, ap, subst, arith, length}
use Rattle.iv_lines.specs.Ordered.{AreInOrder}
use Rattle.iv_lines.specs.RecordValue.{record_cmp, RecordValue}
use Rattle.iv_lines.proofs.InOrderLemmas.{in_order-filter}
use Rattle.iv_track.specs.Tracked.{is_from}
use Rattle.iv_track.specs.Regions.{hits, overlaps}
use Rattle.iv_pair.proofs.HitsLemmas.{hits_from, length-filter_le}
use Rattle.iv_pair.proofs.second.Second.hits.Goals as goal

pub of-requires-clause-ordered : goal.of-requires-clause-ordered
of-requires-clause-ordered g c = subst AreInOrder (sym c.walk.ensures.records) (in_order-filter record_cmp (is_from c.args.seq c.first_start-from.result) c.args.self.now.records c.walk.ensures.ordered)

pub of-requires-clause-few : goal.of-requires-clause-few
of-requires-clause-few g c = omega (arith, ap (λ (l : List RecordValue). length l) c.walk.ensures.records, length-filter_le (is_from c.args.seq c.first_start-from.result) c.args.self.now.records, c.walk.ensures.few)

pub returns-clause-hits : goal.returns-clause-hits
returns-clause-hits g c =
    c.of.ensures
    ∙ ap (λ (l : List RecordValue). hits l c.args.seq c.args.start c.args.stop) c.walk.ensures.records
    ∙ hits_from c.args.self.now.records c.args.seq c.args.start c.args.stop c.first_start-from.result c.longest.result c.longest.ensures (omega (arith, c.first_start-from.ensures))

pub returns-clause-few : goal.returns-clause-few
returns-clause-few g c =
    omega (
      arith,
      ap (λ (l : List RecordValue). length l) (c.of.ensures ∙ ap (λ (l : List RecordValue). hits l c.args.seq c.args.start c.args.stop) c.walk.ensures.records
          ∙ hits_from c.args.self.now.records c.args.seq c.args.start c.args.stop c.first_start-from.result c.longest.result c.longest.ensures (omega (arith, c.first_start-from.ensures))),
      length-filter_le (overlaps c.args.seq c.args.start c.args.stop) c.args.self.now.records,
      c.walk.ensures.few,
    )
