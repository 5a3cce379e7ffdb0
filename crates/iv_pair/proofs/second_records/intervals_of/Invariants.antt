use Rattle.std.proofs.Common.{◌≡◌, ◌++◌, [], All, length, map}
use Rattle.iv_lines.specs.Intervals.{bare}
use Rattle.iv_places.specs.Inside.Places.{HasBase, records_at}
use Rattle.iv_pair.proofs.second_records.intervals_of.Given as goal

-- the records so far are copied, and those that are left remain
abbrev pub invariant-loop-feature : goal.invariant-loop-feature
invariant-loop-feature g l = record {
  bases : All HasBase l.places.items;
  records : records_at 3 [] l.places.items ++ map bare l.records ≡ map bare l.second.records;
}

abbrev pub decreases-loop-feature : goal.decreases-loop-feature
decreases-loop-feature g l = length l.records
