use Rattle.std.proofs.Common.{◌≡◌, ◌+◌, ◌≤◌, length}
use Rattle.iv_lines.specs.Ordered.{AreInOrder}
use Rattle.iv_track.specs.Regions.{hits}
use Rattle.iv_track.specs.Inside.Tracked.{starting_before}
use Rattle.iv_track.proofs.region.TrackHits.next.Given as goal

-- the hits among the records that are left are those that were left, and at most one step was taken for each record that was passed
abbrev pub invariant-loop-feature : goal.invariant-loop-feature
invariant-loop-feature g l = record {
  ordered : AreInOrder l.self-inside.records;
  same : hits l.self-inside.records l.self-inside.at.seq l.self-inside.at.start l.self-inside.at.stop ≡ l.fn.self.records;
  no_less : l.fn.meter ≤ l.meter;
  at_most : l.meter + length (starting_before l.self-inside.at l.self-inside.records) ≤ l.fn.meter + l.fn.self.passes;
}

abbrev pub decreases-loop-feature : goal.decreases-loop-feature
decreases-loop-feature g l = length l.self-inside.records
