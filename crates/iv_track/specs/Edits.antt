-- A track after an edit, and why an edit is refused.
use Rattle.std.specs.Prelude.{◌≡◌, ◌<◌, ◌≤◌, length}
use Rattle.iv_lines.specs.Ordered.{added_by, copies}
use Rattle.iv_lines.specs.RecordValue.{RecordValue, record_cmp}
use Rattle.iv_track.specs.Copies.{removed_by}
use Rattle.iv_track.specs.Tracked.{Tracked}
use Rattle.iv_lines.specs.declared.fault.Fault.{Fault}
use Rattle.iv_lines.specs.declared.fault.Fault.TheVariants as fault

-- the track with one more record, in its place in the order
abbrev pub with_record : RecordValue → Tracked → Tracked
with_record r t = record t { records = added_by record_cmp t.records r }

-- the track with one copy of a record fewer
abbrev pub without_record : RecordValue → Tracked → Tracked
without_record r t = record t { records = removed_by record_cmp t.records r }

-- the track with one copy of r fewer, and one more of q
abbrev pub with_replaced : RecordValue → RecordValue → Tracked → Tracked
with_replaced r q t = with_record q (without_record r t)

-- why a record is not added to a track: it holds its limit; or memory ran out, for it grows only below its limit, and only for
-- a record that is not there
abbrev pub RefusesAdd : Tracked → RecordValue → Fault → Type 0
RefusesAdd t r fault.Full = t.limit ≤ length t.records
RefusesAdd t r fault.NoMemory = (length t.records < t.limit) × (copies t.records r ≡ 0)
RefusesAdd t r other = ⊥

-- why a record is not removed from a track: it is not there
abbrev pub RefusesRemove : Tracked → RecordValue → Fault → Type 0
RefusesRemove t r fault.Absent = copies t.records r ≡ 0
RefusesRemove t r other = ⊥

-- why r is not replaced by q in a track: r is not there; or memory ran out, for the track grows only if r is there, and only
-- for a q that is not
abbrev pub RefusesReplace : Tracked → RecordValue → RecordValue → Fault → Type 0
RefusesReplace t r q fault.Absent = copies t.records r ≡ 0
RefusesReplace t r q fault.NoMemory = (0 < copies t.records r) × (copies t.records q ≡ 0)
RefusesReplace t r q other = ⊥
