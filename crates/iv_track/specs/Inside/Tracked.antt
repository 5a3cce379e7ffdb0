-- The map of a track, and where a search in it begins.
use Rattle.std.specs.Prelude.{◌≡◌, ℕ, ◌+◌, ◌<◌, ◌≤◌, ◌^◌, ◌-◌, false, not, List, Option, Some, None, All, sum, filter}
use Rattle.std.specs.Map.{keys_of, values_of}
use Rattle.iv_track.specs.Copies.{expanded}
use Rattle.iv_ledger.specs.Entries.{IsLedger}
use Rattle.iv_track.specs.Inside.LengthClasses.{AreClasses}
use Rattle.iv_lines.specs.RecordValue.{RecordValue, IsPlaced, record_cmp}
use Rattle.iv_track.specs.Tracked.{is_from, most_records}
use Rattle.iv_track.specs.declared.region.Region.{Region}

-- where a search for these records begins: the placed records from this start of a sequence on are these, and without one there are none
abbrev pub BeginsFrom : ℕ → ℕ → Option (ℕ × ℕ) → Type 0
BeginsFrom seq start (Some p) = (p.1 < 2 ^ 32 - 1) × ((q : RecordValue) → IsPlaced q → is_from p.0 p.1 q ≡ is_from seq start q)
BeginsFrom seq start None = (q : RecordValue) → IsPlaced q → is_from seq start q ≡ false

-- the record has the three columns that each has
abbrev pub HasColumns : RecordValue → Type 0
HasColumns q = 3 ≤ q.width

-- the map of a track: it is in order, each record in it is placed and has a copy and the width, which is 3 or more, and `len` counts
-- the copies
pub record IsTrack (es : List (RecordValue × ℕ)) (len width limit : ℕ) : Type 0 where
  pub ordered : IsLedger record_cmp es
  pub present : All (λ n. 0 < n) (values_of es)
  pub widths : All (λ q. q.width ≡ width) (keys_of es)
  pub wide : All HasColumns (keys_of es)
  pub placed : All IsPlaced (keys_of es)
  pub len_is : len ≡ sum (values_of es)
  pub room : len ≤ limit + 1
  pub bounded : limit ≤ most_records

-- the parts of a track: its map, and the classes of its records' lengths
pub record AreParts (es : List (RecordValue × ℕ)) (len width limit : ℕ) (classes : List ℕ) : Type 0 where
  pub track : IsTrack es len width limit
  pub lengths : AreClasses classes (expanded es)

-- the records before the end of a region: those that a walk passes until it knows that no other hit comes
abbrev pub starting_before : Region → List RecordValue → List RecordValue
starting_before at records = filter (λ r. not (is_from at.seq at.stop r)) records
