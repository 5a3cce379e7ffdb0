use Rattle.std.proofs.Common.{map}
use Rattle.iv_pair.proofs.CarryLemmas.{stands-kept}
use Rattle.iv_pair.proofs.hit_finder.HitFinder.go_to.Goals as goal

pub invariant_of-self : goal.invariant_of-self
invariant_of-self g c =
    let value = g.W.Record.BedRecord.as_record in
    let s = c.self.inside in
    stands-kept (g.N.SecondRecords.records s.second) (map value s.carried.items) (map value c.keep.new.records.items) (g.W.RecordWalk.left s.walk) s.seq s.start c.args.seq c.args.start
    (c.is_onward-goes_on.ensures c.if-goes_on.true) c.keep.ensures c.self.invariant
