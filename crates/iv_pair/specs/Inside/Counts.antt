-- How many records begin before a position, and how many end up to it. Positions are in order by the rank of the sequence first.
use Rattle.std.specs.Prelude.{◌≡◌, ◌<◌, ℕ, ◌==◌, ◌&&◌, ◌||◌, nat_le, nat_lt, Bool, List, All, count_by}
use Rattle.std.specs.List.Sorted.{IsPartitionedBy}
use Rattle.iv_lines.specs.RecordValue.{RecordValue}
use Rattle.iv_places.specs.declared.placed_records.Place.{Place}
use Rattle.iv_pair.specs.declared.count_sweep.End.{End}

-- whether position p of the sequence of rank s is before position `at` of the sequence of rank `seq`
abbrev pub is_before : ℕ → ℕ → ℕ → ℕ → Bool
is_before seq at s p = nat_lt s seq || ((s == seq) && nat_lt p at)

-- whether it is that position or before it
abbrev pub is_up_to : ℕ → ℕ → ℕ → ℕ → Bool
is_up_to seq at s p = nat_lt s seq || ((s == seq) && nat_le p at)

-- whether a record begins before a position
abbrev pub begins_before : ℕ → ℕ → RecordValue → Bool
begins_before seq at b = is_before seq at b.seq b.start

-- whether a record ends at a position or before it
abbrev pub ends_by : ℕ → ℕ → RecordValue → Bool
ends_by seq at b = is_up_to seq at b.seq b.stop

-- whether a place begins before a position
abbrev pub place_before : ℕ → ℕ → Place → Bool
place_before seq at place = is_before seq at place.interval.seq place.interval.start

-- whether an end is at a position or before it
abbrev pub end_by : ℕ → ℕ → End → Bool
end_by seq at end = is_up_to seq at end.seq end.stop

-- the places are in order of where they begin
abbrev pub StartsAscend : List Place → Type 0
StartsAscend places = (seq at : ℕ) → IsPartitionedBy (place_before seq at) places

-- the ends are in order
abbrev pub EndsAscend : List End → Type 0
EndsAscend ends = (seq at : ℕ) → IsPartitionedBy (end_by seq at) ends

-- where a place ends
abbrev pub end_of : Place → End
end_of place = record { seq = place.interval.seq; stop = place.interval.stop }

-- these are the ends of the records, in order
pub record AreEndsOf (ends : List End) (records : List RecordValue) : Type 0 where
  pub ascend : EndsAscend ends
  pub counts : (seq at : ℕ) → count_by (end_by seq at) ends ≡ count_by (ends_by seq at) records

-- these places have the intervals of the records, in order, and each record has a base
pub record AreStartsOf (places : List Place) (records : List RecordValue) : Type 0 where
  pub ascend : StartsAscend places
  pub counts : (seq at : ℕ) → count_by (place_before seq at) places ≡ count_by (begins_before seq at) records
  pub some : All (λ (b : RecordValue). b.start < b.stop) records
