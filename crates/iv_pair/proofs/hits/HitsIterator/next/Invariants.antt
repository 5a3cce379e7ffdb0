use Rattle.std.proofs.Common.{◌≡◌, ◌+◌, ◌<◌, ◌^◌, [], length}
use Rattle.iv_lines.specs.Ordered.{AreInOrder}
use Rattle.iv_track.specs.Regions.{hits}
use Rattle.iv_pair.proofs.hits.HitsIterator.next.Given as goal

-- none is carried, the records left are in order, and the hits among them are all that were left
abbrev pub invariant-loop-next : goal.invariant-loop-next
invariant-loop-next g l = record {
  carried : l.self-inside.carried.now ≡ [];
  ordered : AreInOrder (g.W.RecordWalk.left l.self-inside.walk);
  few : length l.self-inside.carried.now + length (g.W.RecordWalk.left l.self-inside.walk) < 2 ^ 63;
  same : hits (g.W.RecordWalk.left l.self-inside.walk) l.self-inside.seq l.self-inside.start l.self-inside.stop ≡ l.fn.self;
}

abbrev pub decreases-loop-next : goal.decreases-loop-next
decreases-loop-next g l = length (g.W.RecordWalk.left l.self-inside.walk)
