-- The intervals of records, and the order of a track among them.
use Rattle.std.specs.Prelude.{[], None}
use Rattle.std.specs.declared.cmp.Ordering.{Ordering}
use Rattle.std.specs.Cmp.{IsTotalOrder, on_total}
use Rattle.iv_lines.specs.RecordValue.{RecordValue, record_cmp, records_total}
use Rattle.iv_lines.specs.declared.interval.Interval.{Interval}

-- the interval of a record
abbrev pub interval_of : RecordValue → Interval
interval_of r = record { seq = r.seq; start = r.start; stop = r.stop }

-- the record of an interval, in three columns
abbrev pub record_of_interval : Interval → RecordValue
record_of_interval i = record { seq = i.seq; start = i.start; stop = i.stop; name = []; score = []; strand = None; width = 3 }

-- the record in three columns: its interval, and nothing else
abbrev pub bare : RecordValue → RecordValue
bare r = record_of_interval (interval_of r)

-- the order of a track among the records of intervals
abbrev pub interval_cmp : Interval → Interval → Ordering
interval_cmp a b = record_cmp (record_of_interval a) (record_of_interval b)

-- it is a total order
pub intervals_total : IsTotalOrder interval_cmp
intervals_total = on_total record_of_interval records_total
