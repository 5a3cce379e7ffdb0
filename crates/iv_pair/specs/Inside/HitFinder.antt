-- Where a search for hits is. This is the state of `HitFinder`, as seen by its proof.
use Rattle.std.specs.Prelude.{◌≡◌, ℕ, ◌+◌, ◌<◌, ◌≤◌, ◌^◌, ◌++◌, true, List, All, length}
use Rattle.iv_lines.specs.Ordered.{AreInOrder}
use Rattle.iv_lines.specs.RecordValue.{RecordValue}
use Rattle.iv_lines.specs.CoveredPositions.{covers}
use Rattle.iv_track.specs.Regions.{hits}

-- the records of the second file, where the search is, and the hits of the interval that was sought last
pub record Finding : Type 0 where
  pub records : List RecordValue
  pub seq : ℕ
  pub start : ℕ
  pub stop : ℕ
  pub found : List RecordValue

-- the same records are searched, for the same interval
pub record IsSameSearch (old new : Finding) : Type 0 where
  pub records : new.records ≡ old.records
  pub seq : new.seq ≡ old.seq
  pub start : new.start ≡ old.start
  pub stop : new.stop ≡ old.stop

-- the position t of sequence s is this position or after it
abbrev pub IsOnward : ℕ → ℕ → ℕ → ℕ → Type 0
IsOnward seq start s t = (seq ≤ s) × (seq ≡ s → start ≤ t)

-- each interval from this position on has the same hits in both lists
abbrev pub HitAlike : ℕ → ℕ → List RecordValue → List RecordValue → Type 0
HitAlike seq start xs ys = (s t stop : ℕ) → IsOnward seq start s t → hits xs s t stop ≡ hits ys s t stop

-- each of these records has this position
abbrev pub AllCover : ℕ → ℕ → List RecordValue → Type 0
AllCover seq start walk = All (λ b. covers seq start b ≡ true) walk

-- each of these records starts at this position or before it
abbrev pub AllBegun : ℕ → ℕ → List RecordValue → Type 0
AllBegun seq start walk = All (λ (b : RecordValue). IsOnward b.seq b.start seq start) walk

-- the records carried and those ahead have the hits of all records from this position on
pub record StandsAt (records carried walk : List RecordValue) (seq start : ℕ) : Type 0 where
  pub cover : AllCover seq start carried
  pub alike : HitAlike seq start (carried ++ walk) records
  pub ahead_ordered : AreInOrder walk
  pub few : length carried + length walk < 2 ^ 63
  pub ordered : AreInOrder records
