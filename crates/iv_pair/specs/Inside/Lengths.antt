-- How many records there are of each length, in a map. This is a part of the state of `Second`, as seen by its proof.
use Rattle.std.specs.Prelude.{◌≡◌, ℕ, ◌+◌, ◌-◌, ◌<◌, ◌≤◌, ◌^◌, List, All, count_by, length}
use Rattle.std.specs.Ordering.{is_eq}
use Rattle.std.specs.Map.{keys_of, values_of}
use Rattle.iv_lines.specs.Inside.Ordered.{copies_by}
use Rattle.iv_lines.specs.RecordValue.{RecordValue}
use Rattle.iv_track.specs.Copies.{expanded}
use Rattle.iv_ledger.specs.Entries.{IsLedger, pair_cmp}
use Rattle.iv_track.specs.Tracked.{Tracked}

-- the rank of a record's sequence, and how many positions it has
abbrev pub length_of : RecordValue → ℕ × ℕ
length_of r = (r.seq, r.stop - r.start)

-- how many of the records have this length
abbrev pub with_length : List RecordValue → ℕ × ℕ → ℕ
with_length records k = count_by (λ r. is_eq (pair_cmp k (length_of r))) records

-- a map from lengths of 32 bits to numbers that are not 0
pub record IsTally (es : List ((ℕ × ℕ) × ℕ)) : Type 0 where
  pub ordered : IsLedger pair_cmp es
  pub present : All (λ n. 0 < n) (values_of es)
  pub small : All (λ (k : ℕ × ℕ). k.1 < 2 ^ 32) (keys_of es)

-- the map has each length that occurs, with the number of records that have it, and no other
pub record AreLengths (es : List ((ℕ × ℕ) × ℕ)) (records : List RecordValue) : Type 0 where
  pub tally : IsTally es
  pub counts : (k : ℕ × ℕ) → copies_by pair_cmp (expanded es) k ≡ with_length records k

-- the invariant of a second file: the map has the lengths of its track's records, of which there are no more than the limit
pub record IsSecond (es : List ((ℕ × ℕ) × ℕ)) (track : Tracked) : Type 0 where
  pub counted : AreLengths es track.records
  pub few : length track.records ≤ track.limit

-- no record on the sequence of this rank has more positions than n
abbrev pub AreUpTo : ℕ → ℕ → List RecordValue → Type 0
AreUpTo seq n records = All (λ q. q.seq ≡ seq → q.stop ≤ q.start + n) records
