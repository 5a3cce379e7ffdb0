use Rattle.std.proofs.Common.{map, ap}
use Rattle.iv_pair.proofs.CarryLemmas.{stands-anew}
use Rattle.iv_pair.proofs.hit_finder.HitFinder.of.Goals as goal

pub invariant_of-result : goal.invariant_of-result
invariant_of-result g c =
    let value = g.W.Record.BedRecord.as_record in
    stands-anew (g.N.SecondRecords.records c.args.second) (map value c.args.room.items) (g.W.RecordWalk.left c.walk-walk.result) 0 0 (ap (map value) c.requires.none) c.walk-walk.ensures c.requires.order c.lemma_of_few.ensures
