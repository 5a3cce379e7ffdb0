use Rattle.std.proofs.Common.{List}
use Rattle.std.specs.Iterator.{AlwaysYields}
use Rattle.std.specs.List.{flat_map}
use Rattle.iv_lines.specs.RecordValue.{RecordValue}
use Rattle.iv_pair.specs.Inside.HitLines.{AllOverlap, hit_line}
use Rattle.iv_pair.proofs.LineLemmas.{LinesLeft}
use Rattle.iv_pair.proofs.intersect.put_each_hit.Given as goal

-- the lines of the hits that are left remain to be written
abbrev pub invariant-loop-hit : goal.invariant-loop-hit
invariant-loop-hit g l = (found : List RecordValue) → AlwaysYields g.H.Iterator.next_gives g.T.BedRecord.as_record l.fn.hits found → AllOverlap l.feature found
    → LinesLeft g.H.Iterator.next_gives g.T.BedRecord.as_record l.feature (hit_line l.output l.genome l.feature) l.hit-iterator (g.S.Sink.state l.fn.sink) (g.S.Sink.state l.sink) (flat_map (hit_line l.output l.genome l.feature) found)
