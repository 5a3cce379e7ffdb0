use Rattle.std.proofs.Common.{◌≡◌, ◌+◌, ◌<◌, ◌≤◌, length, map}
use Rattle.std.specs.List.{flat_map}
use Rattle.iv_bytes.proofs.PutLemmas.{Underway}
use Rattle.iv_lines.specs.Ordered.{AreInOrder}
use Rattle.iv_lines.specs.RecordValue.{RecordValue}
use Rattle.iv_lines.proofs.ListLemmas.{Mem}
use Rattle.iv_track.specs.Regions.{near}
use Rattle.iv_blocks.specs.Inside.BlockCursor.{interval_of}
use Rattle.iv_blocks.specs.ClusterRows.{blocks_until, cluster_row}
use Rattle.iv_blocks.specs.RegionRows.{cluster_text_in}
use Rattle.iv_blocks.proofs.ClusterLemmas.{IsPassed}
use Rattle.iv_blocks.proofs.blocks.Blocks.print_cluster_in.Given as goal

-- the rows of the records that are left remain to be written
abbrev pub invariant-loop-feature : goal.invariant-loop-feature
invariant-loop-feature g l = record {
  put : Underway (g.S.Sink.state l.fn.sink) (g.S.Sink.state l.sink)
      (flat_map (cluster_row l.self.options.distance l.genome l.track.records) l.hits.records)
      (cluster_text_in l.self.options.distance l.genome l.track.records l.fn.region.seq l.fn.region.start l.fn.region.stop);
  ordered : AreInOrder l.hits.records;
  here : (r : RecordValue) → Mem r l.hits.records → (r.seq ≡ l.fn.region.seq) × (r.start < l.fn.region.stop);
  passed : IsPassed l.number (map interval_of l.self.entries) l.ahead l.hits.records;
  until : l.number ≤ blocks_until l.self.options.distance l.genome l.track.records l.fn.region.seq l.fn.region.stop;
  no_less : l.fn.meter ≤ l.meter;
  at_most : l.meter + l.hits.passes ≤ l.fn.meter + (3 + length (near l.fn.region l.track.records) + l.number);
}

abbrev pub decreases-loop-feature : goal.decreases-loop-feature
decreases-loop-feature g l = length l.hits.records
