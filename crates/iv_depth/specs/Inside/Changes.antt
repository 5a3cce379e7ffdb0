-- Net changes of depth, and how one record changes them.
use Rattle.std.specs.Prelude.{◌≡◌, ◌≢◌, ℕ, ◌<◌, ◌^◌, Bool, List, length, ℤ, pos, ◌+ℤ◌, All, if◌then◌else◌}
use Rattle.std.specs.Map.{values_of}
use Rattle.iv_lines.specs.RecordValue.{RecordValue}
use Rattle.iv_ledger.specs.Entries.{IsLedger, pair_cmp}
use Rattle.iv_lines.specs.CoveredPositions.{covers}
use Rattle.iv_cover.specs.Depth.{depth}
use Rattle.iv_depth.specs.Changes.{AreChangesOf, ChangeKey, Entries, reaches, total}

-- these are the net changes of the depth of some records, which are few
pub record AreChanges (entries : Entries) : Type 0 where
  pub records : List RecordValue
  pub right : AreChangesOf records entries
  pub few : length records < 2 ^ 32

-- the new entries have this change more at the key, and as before keys ascend and no change is 0
pub record Bumps (old new : Entries) (key : ChangeKey) (by : ℤ) : Type 0 where
  pub ordered : IsLedger pair_cmp new
  pub changes : All (λ z. z ≢ pos 0) (values_of old) → All (λ z. z ≢ pos 0) (values_of new)
  pub sums : (passes : ChangeKey → Bool) → total passes new ≡ total passes old +ℤ (if passes key then by else pos 0)

-- the new entries change the depth by this number at each position that the record covers, and as before keys ascend and no
-- change is 0
pub record Shifts (r : RecordValue) (by : ℤ) (old new : Entries) : Type 0 where
  pub ordered : IsLedger pair_cmp new
  pub changes : All (λ z. z ≢ pos 0) (values_of old) → All (λ z. z ≢ pos 0) (values_of new)
  pub sums : (seq p : ℕ) → total (reaches seq p) new ≡ total (reaches seq p) old +ℤ (if covers seq p r then by else pos 0)

-- these are the net changes of the records' depth on the sequences before this rank
pub record AreChangesBefore (seq : ℕ) (records : List RecordValue) (entries : Entries) : Type 0 where
  pub ordered : IsLedger pair_cmp entries
  pub changes : All (λ e. e.1 ≢ pos 0) entries
  pub ranks : All (λ e. e.0.0 < seq) entries
  pub depths : (other p : ℕ) → other < seq → total (reaches other p) entries ≡ pos (depth records other p)
