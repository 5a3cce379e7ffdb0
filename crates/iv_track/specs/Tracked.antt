-- A track as the ordered list of its records, with copies repeated.
use Rattle.std.specs.Prelude.{ℕ, Bool, List, Option, Some, None, find}
use Rattle.std.specs.Ordering.{is_lt, is_le, nat_cmp, ordering_then}
use Rattle.iv_lines.specs.RecordValue.{RecordValue, record_cmp}
use Rattle.iv_lines.specs.Ordered.{copies}
use Rattle.iv_track.specs.Copies.{removed_by, different_by}

-- the greatest limit that a track may have
abbrev pub most_records : ℕ
most_records = 100000000

-- what a track is: its records in track order, the width of each and the limit
pub record Tracked : Type 0 where
  pub records : List RecordValue
  pub width : ℕ
  pub limit : ℕ

-- the records with one copy of r fewer
abbrev pub removed : List RecordValue → RecordValue → List RecordValue
removed = removed_by record_cmp

-- how many different records there are among these, which are in order
abbrev pub different_records : List RecordValue → ℕ
different_records = different_by record_cmp

-- a record and its number of copies
abbrev pub with_copies : List RecordValue → Option RecordValue → Option (RecordValue × ℕ)
with_copies records None = None
with_copies records (Some r) = Some (r, copies records r)

-- whether q is on the given sequence from the given start on, or on a later sequence
abbrev pub is_from : ℕ → ℕ → RecordValue → Bool
is_from seq start q = is_le (ordering_then (nat_cmp seq q.seq) (nat_cmp start q.start))

-- the first such record, with its copies
abbrev pub next_from : List RecordValue → ℕ → ℕ → Option (RecordValue × ℕ)
next_from records seq start = with_copies records (find (is_from seq start) records)

-- the first record after r, with its copies
abbrev pub next_after : List RecordValue → RecordValue → Option (RecordValue × ℕ)
next_after records r = with_copies records (find (λ q. is_lt (record_cmp r q)) records)
