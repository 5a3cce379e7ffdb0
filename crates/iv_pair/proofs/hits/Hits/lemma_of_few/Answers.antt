use Rattle.std.proofs.Common.{List, length, map, ap, arith, length-append}
use Rattle.std.proofs.lemmas.List.{length-map}
use Rattle.iv_lines.specs.RecordValue.{RecordValue}
use Rattle.iv_track.specs.Regions.{overlaps, hits}
use Rattle.iv_pair.proofs.HitsLemmas.{length-filter_le}
use Rattle.iv_pair.proofs.hits.Hits.lemma_of_few.Goals as goal

pub returns : goal.returns
returns g c =
    let i = c.self.inside in
    let value = g.W.Record.BedRecord.as_record in
    let left = g.W.RecordWalk.left i.walk in
    omega (arith, ap (λ (l : List RecordValue). length l) c.self.view_is, length-append (map value i.carried.now) (hits left i.seq i.start i.stop), length-map i.carried.now value, length-filter_le (overlaps i.seq i.start i.stop) left, c.self.invariant.1)
