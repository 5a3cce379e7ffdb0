-- Net changes of depth, by key. This is the state of a kept view, as seen by proofs; the rows are defined without it.
use Rattle.std.specs.Prelude.{◌≡◌, ◌≢◌, ℕ, ◌==◌, ◌&&◌, nat_le, Bool, List, [], ◌∷◌, ℤ, pos, ◌+ℤ◌, All, if◌then◌else◌}
use Rattle.std.specs.Map.{values_of}
use Rattle.iv_lines.specs.RecordValue.{RecordValue}
use Rattle.iv_ledger.specs.Entries.{IsLedger, pair_cmp}
use Rattle.iv_cover.specs.Depth.{depth}

-- a key: the rank of a sequence and a position on it, from 0
abbrev pub ChangeKey : Type 0
ChangeKey = ℕ × ℕ

-- keys with a net change of depth at each
abbrev pub Entries : Type 0
Entries = List (ChangeKey × ℤ)

-- the sum of the changes at the keys that pass
abbrev pub total : {K : Type 0} → (K → Bool) → List (K × ℤ) → ℤ
total passes [] = pos 0
total passes (e ∷ entries) = (if passes e.0 then e.1 else pos 0) +ℤ total passes entries

-- the key is on the sequence of this rank, at p or before
abbrev pub reaches : ℕ → ℕ → ChangeKey → Bool
reaches seq p key = (key.0 == seq) && nat_le key.1 p

-- these are the net changes of the records' depth: keys ascend, no change is 0, and up to each position they sum to its depth
pub record AreChangesOf (records : List RecordValue) (entries : Entries) : Type 0 where
  pub ordered : IsLedger pair_cmp entries
  pub changes : All (λ z. z ≢ pos 0) (values_of entries)
  pub depths : (seq p : ℕ) → total (reaches seq p) entries ≡ pos (depth records seq p)
