-- Which sequences have a record.
use Rattle.std.specs.Prelude.{ℕ, ◌==◌, Bool, false, List, slice_get}
use Rattle.std.specs.Option.{unwrap_or}
use Rattle.iv_lines.specs.RecordValue.{RecordValue}
use Rattle.iv_places.specs.declared.placed_records.Place.{Place}

-- the record is on the sequence of this rank
abbrev pub has_rank : ℕ → RecordValue → Bool
has_rank seq r = r.seq == seq

-- so is that of the place
abbrev pub is_at : ℕ → Place → Bool
is_at seq p = p.interval.seq == seq

-- the list says so of this rank
abbrev pub is_marked : List Bool → ℕ → Bool
is_marked ranks seq = unwrap_or (slice_get ranks seq) false
