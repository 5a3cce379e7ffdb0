use Rattle.std.proofs.Common.{◌+◌, ◌≤◌, ◌++◌, length, map}
use Rattle.iv_lines.specs.Ordered.{AreInOrder}
use Rattle.iv_pair.specs.Inside.HitFinder.{AllCover, HitAlike}
use Rattle.iv_pair.proofs.hit_finder.take_begun.Given as goal

-- what is carried and what is ahead have the hits from this position on as before
abbrev pub invariant-loop : goal.invariant-loop
invariant-loop g l =
    let value = g.W.Record.BedRecord.as_record in
    let left = g.W.RecordWalk.left l.walk in record {
      ordered : AreInOrder left;
      few : length l.carried.items + length left ≤ length l.fn.carried.items + length (g.W.RecordWalk.left l.fn.walk);
      cover : AllCover l.seq l.start (map value l.carried.items);
      alike : HitAlike l.seq l.start (map value l.carried.items ++ left) (map value l.fn.carried.items ++ g.W.RecordWalk.left l.fn.walk);
    }
