use Rattle.std.proofs.Common.{◌+◌, ◌≤◌, length, map}
use Rattle.std.specs.List.{flat_map}
use Rattle.iv_bytes.proofs.PutLemmas.{Underway}
use Rattle.iv_lines.specs.Ordered.{AreInOrder}
use Rattle.iv_blocks.specs.Inside.BlockCursor.{interval_of}
use Rattle.iv_blocks.specs.ClusterRows.{cluster_row, cluster_text}
use Rattle.iv_blocks.proofs.ClusterLemmas.{IsPassed}
use Rattle.iv_blocks.proofs.blocks.Blocks.print_cluster.Given as goal

-- the rows of the records that are left remain to be written
abbrev pub invariant-loop-feature : goal.invariant-loop-feature
invariant-loop-feature g l = record {
  put : Underway (g.S.Sink.state l.fn.sink) (g.S.Sink.state l.sink)
      (flat_map (cluster_row l.self.options.distance l.genome l.track.records) l.records)
      (cluster_text l.self.options.distance l.genome l.track.records);
  ordered : AreInOrder l.records;
  passed : IsPassed l.number (map interval_of l.self.entries) l.ahead l.records;
  no_less : l.fn.meter ≤ l.meter;
  at_most : l.meter + length l.records + length l.ahead ≤ l.fn.meter + (3 + length l.track.records + length l.self.entries);
}

abbrev pub decreases-loop-feature : goal.decreases-loop-feature
decreases-loop-feature g l = length l.records
