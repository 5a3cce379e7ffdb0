-- A walk over the changes of depth of one region. This is the state of its print, as seen by its proof.
use Rattle.std.specs.Prelude.{◌≡◌, ◌≢◌, ℕ, ◌+◌, ◌*◌, ◌<◌, ◌≤◌, ◌^◌, length, ℤ, pos, ◌+ℤ◌, All}
use Rattle.std.specs.List.{AllByRecursion}
use Rattle.std.specs.Map.{values_of}
use Rattle.iv_ledger.specs.Entries.{IsLedger, pair_cmp}
use Rattle.iv_depth.specs.Changes.{Entries, total, reaches}
use Rattle.iv_depth.specs.Inside.Walks.{on, AreBreaks, Follows}
use Rattle.iv_depth.specs.Inside.RunRows.{covered_from}

-- the entries have the net changes of f on the sequence of this rank and length, and f is 0 from its end on
pub record AreChangesOn (f : ℕ → ℕ) (seq length : ℕ) (entries : Entries) : Type 0 where
  pub ordered : IsLedger pair_cmp entries
  pub changes : All (λ z. z ≢ pos 0) (values_of entries)
  pub depths : (p : ℕ) → total (reaches seq p) entries ≡ pos (f p)
  pub small : (p : ℕ) → f p < 2 ^ 32
  pub ends : (p : ℕ) → length ≤ p → f p ≡ 0

-- the run of f that holds p starts here
pub record IsRunStart (f : ℕ → ℕ) (p start : ℕ) : Type 0 where
  pub low : start ≤ p
  pub same : (q : ℕ) → start ≤ q → q ≤ p → f q ≡ f p
  pub other : (q : ℕ) → q + 1 ≡ start → f q ≢ f start

-- the entries have the changes of f after this position of the sequence, at which it is d
pub record AreLeft (f : ℕ → ℕ) (seq here length d : ℕ) (entries : Entries) : Type 0 where
  pub ordered : IsLedger pair_cmp entries
  pub ranks : AllByRecursion (λ e. seq ≤ e.0.0) entries
  pub breaks : AreBreaks (here + 1) length (on seq entries)
  pub follows : Follows f here (pos d) (on seq entries)
  pub small : (p : ℕ) → f p < 2 ^ 32

-- f is d from here up to the stop, there it changes to `next`, and these entries have the changes after it
pub record EndsRun (f : ℕ → ℕ) (seq here length d stop : ℕ) (change : ℤ) (entries : Entries) : Type 0 where
  pub low : here < stop
  pub high : stop ≤ length
  pub same : (q : ℕ) → here ≤ q → q < stop → f q ≡ d
  pub next : ℕ
  pub sum : pos d +ℤ change ≡ pos next
  pub small : next < 2 ^ 32
  pub other : stop < length → (d ≢ next) × (f stop ≡ next) × AreLeft f seq stop length next entries

-- a print of the region from start to stop is at this position, from which on f is the depth, and after which these entries come; so
-- many steps are allowed
pub record IsWalking (f : ℕ → ℕ) (seq long start stop allowed from : ℕ) (depth : ℤ) (entries : Entries) (old now : ℕ) : Type 0 where
  pub value : ℕ
  pub is : depth ≡ pos value
  pub small : value < 2 ^ 32
  pub same : (q : ℕ) → from ≤ q → q ≤ start → f q ≡ value
  pub left : from < stop → AreLeft f seq from long value entries
  pub no_less : old ≤ now
  pub at_most : now + 2 * length (covered_from f long start stop from) ≤ allowed
  pub bare : from < stop → value ≡ 0 → now + 2 * length (covered_from f long start stop from) + 1 ≤ allowed
