use Rattle.std.proofs.Common.{◌≡◌, List, length}
use Rattle.iv_lines.specs.RecordValue.{RecordValue}
use Rattle.iv_pair.specs.CoverAlone.{GiveRowsAlike}
use Rattle.iv_pair.proofs.PairTextLemmas.{HasPut}
use Rattle.iv_pair.proofs.hit_finder.put_by_hits.Given as goal

-- the rows of the records that were taken are put
abbrev pub invariant-loop-feature : goal.invariant-loop-feature
invariant-loop-feature g l = record {
  same : l.finder.records ≡ l.fn.finder.records;
  put : (second : List RecordValue) → GiveRowsAlike l.output l.fn.finder.records second
      → HasPut l.output l.genome second (g.W.RecordWalk.left l.fn.records) (g.W.RecordWalk.left l.records) (g.S.Sink.state l.fn.sink) (g.S.Sink.state l.sink);
}

abbrev pub decreases-loop-feature : goal.decreases-loop-feature
decreases-loop-feature g l = length (g.W.RecordWalk.left l.records)
