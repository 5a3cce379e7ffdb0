use Rattle.std.proofs.Common.{◌≡◌, take}
use Rattle.iv_places.proofs.places.Places.of_records.Given as goal

-- the places are those of the records so far
abbrev pub invariant-loop-record : goal.invariant-loop-record
invariant-loop-record g l = l.places.records ≡ take l.record-index l.fn.records
