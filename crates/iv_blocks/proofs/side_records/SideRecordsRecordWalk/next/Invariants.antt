use Rattle.std.proofs.Common.{◌≡◌, filter, length}
use Rattle.iv_blocks.specs.Inside.Groups.{is_on}
use Rattle.iv_blocks.proofs.side_records.SideRecordsRecordWalk.next.Given as goal

-- those on the side among the records left are all that were left
abbrev pub invariant-loop-record : goal.invariant-loop-record
invariant-loop-record l = filter (is_on l.self-inside.side) l.self-inside.records ≡ l.fn.self

abbrev pub decreases-loop-record : goal.decreases-loop-record
decreases-loop-record l = length l.self-inside.records
