use Rattle.std.proofs.Common.{◌∙◌, List, sym, ap, subst, arith}
use Rattle.iv_lines.specs.Ordered.{AreInOrder}
use Rattle.iv_lines.specs.RecordValue.{RecordValue, record_cmp}
use Rattle.iv_lines.proofs.InOrderLemmas.{in_order-filter}
use Rattle.iv_track.specs.Tracked.{is_from}
use Rattle.iv_pair.specs.Hits.{hits_of}
use Rattle.iv_pair.proofs.HitsLemmas.{hits_from}
use Rattle.iv_pair.proofs.pair_rows.put_pair.Goals as goal

pub first_start-from-requires : goal.first_start-from-requires
first_start-from-requires g c = omega (arith, c.start.ensures, c.lemma_of_interval.ensures.some, c.lemma_of_interval.ensures.stop)

pub put_among-requires : goal.put_among-requires
put_among-requires g c = subst AreInOrder (sym c.walk-records.ensures.records) (in_order-filter record_cmp (is_from c.seq-2.result c.first_start-from.result) c.args.second.now.records c.walk-records.ensures.ordered)

pub returns : goal.returns
returns g c =
    let a = c.args.feature.now in
    let second = c.args.second.now.records in
    let walked = rw (c.seq-2.ensures) at c.walk-records.ensures.records in
    let up = rw (c.seq.ensures) at c.longest.ensures in
    c.put_among.ensures second c.walk-records.ensures.ordered
    (ap (λ (l : List RecordValue). hits_of l a) walked ∙ hits_from second a.seq a.start a.stop c.first_start-from.result c.longest.result up (omega (arith, c.first_start-from.ensures, c.start.ensures)))
