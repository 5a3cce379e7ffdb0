use Rattle.std.proofs.Common.{◌≡◌, ◌+◌, ◌≤◌, length}
use Rattle.iv_track.specs.Regions.{hits, near}
use Rattle.iv_track.specs.Tracked.{most_records}
use Rattle.iv_track.proofs.track.Track.depth_at.Given as goal

-- those that are counted and those that are left are all; at most one step was taken for each record that was passed
abbrev pub invariant-loop-depth : goal.invariant-loop-depth
invariant-loop-depth g l = record {
  counted : l.depth + length l.hits.records ≡ length (hits l.self.records l.seq l.position (l.position + 1));
  few : l.depth + length l.hits.records ≤ most_records + 1;
  no_less : l.fn.meter ≤ l.meter;
  at_most : l.meter + l.hits.passes ≤ l.fn.meter + 1 + length (near (record { seq = l.seq; start = l.position; stop = l.position + 1 }) l.self.records);
}

abbrev pub decreases-loop-depth : goal.decreases-loop-depth
decreases-loop-depth g l = length l.hits.records
