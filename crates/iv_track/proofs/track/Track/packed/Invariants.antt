use Rattle.std.proofs.Common.{◌≡◌, ◌++◌, length}
use Rattle.iv_track.proofs.track.Track.packed.Given as goal

-- the records that are held and those that are left are all
abbrev pub invariant-loop-record : goal.invariant-loop-record
invariant-loop-record g l = l.places.records ++ l.records ≡ l.self.records

abbrev pub decreases-loop-record : goal.decreases-loop-record
decreases-loop-record g l = length l.records
