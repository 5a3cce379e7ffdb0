use Rattle.std.proofs.Common.{◌≡◌, ◌++◌}
use Rattle.iv_places.proofs.placed_records.PlacedRecords.to_records.Given as goal

-- the records so far are copied, and those that are left remain
abbrev pub invariant-loop-record : goal.invariant-loop-record
invariant-loop-record g l = l.records.items ++ l.record-iterator ≡ l.self
