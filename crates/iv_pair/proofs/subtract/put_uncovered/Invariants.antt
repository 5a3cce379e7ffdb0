use Rattle.std.proofs.Common.{List}
use Rattle.std.specs.Iterator.{AlwaysYields}
use Rattle.iv_lines.specs.Ordered.{AreInOrder}
use Rattle.iv_lines.specs.RecordValue.{RecordValue, part}
use Rattle.iv_pair.specs.Hits.{hits_of}
use Rattle.iv_pair.specs.IntersectRows.{record_line}
use Rattle.iv_pair.proofs.UncoveredLemmas.{Remains}
use Rattle.iv_pair.proofs.subtract.put_uncovered.Given as goal

-- the parts before `from` are put, and from there on the depth of the file is that of the hits that are left
abbrev pub invariant-loop-hit : goal.invariant-loop-hit
invariant-loop-hit g l =
    let a = g.R.BedRecord.as_record l.feature in
    (second : List RecordValue) → AreInOrder second → AlwaysYields g.H.Iterator.next_gives g.T.BedRecord.as_record l.fn.hits (hits_of second a)
    → (found : List RecordValue) × AlwaysYields g.H.Iterator.next_gives g.T.BedRecord.as_record l.hit-iterator found
    × Remains (λ run. record_line l.genome (part a run.start run.stop)) second a.seq a.start l.from a.stop found (g.S.Sink.state l.fn.sink) (g.S.Sink.state l.sink)
