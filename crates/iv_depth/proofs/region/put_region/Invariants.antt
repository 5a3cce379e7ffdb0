use Rattle.std.proofs.Common.{◌+◌, ◌-◌, ◌*◌, length}
use Rattle.iv_bytes.proofs.PutLemmas.{Underway}
use Rattle.iv_depth.specs.RegionRows.{covered_runs_in, rows_in}
use Rattle.iv_depth.specs.Inside.Region.{IsWalking}
use Rattle.iv_depth.specs.Inside.RunRows.{rows_from}
use Rattle.iv_depth.specs.Inside.Walks.{depth_by}
use Rattle.iv_depth.proofs.region.put_region.Given as goal

-- the rows from `from` on remain to be written
abbrev pub invariant-loop-from : goal.invariant-loop-from
invariant-loop-from g l = record {
  put : Underway (g.S.Sink.state l.fn.sink) (g.S.Sink.state l.sink)
      (rows_from l.output l.name (depth_by l.changes l.seq) l.length l.start l.stop l.from)
      (rows_in l.output l.name (depth_by l.changes l.seq) l.length l.start l.stop);
  walk : IsWalking (depth_by l.changes l.seq) l.seq l.length l.start l.stop
      (l.fn.meter + (3 + 2 * length (covered_runs_in (depth_by l.changes l.seq) l.length l.start l.stop)))
      l.from l.depth l.left l.fn.meter l.meter;
}

abbrev pub decreases-loop-from : goal.decreases-loop-from
decreases-loop-from g l = l.stop - l.from
