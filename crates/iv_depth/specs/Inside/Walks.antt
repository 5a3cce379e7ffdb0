-- A walk over changes of depth, sequence by sequence. This is the state of a print, as seen by its proof.
use Rattle.std.specs.Prelude.{◌≡◌, ◌≢◌, ℕ, ◌+◌, ◌==◌, ◌<◌, ◌≤◌, ◌^◌, if◌then◌else◌, nat_le, List, [], ◌∷◌, ℤ, pos, ◌+ℤ◌, All}
use Rattle.std.specs.Int.RustNames.{unsigned_abs}
use Rattle.std.specs.List.{AllByRecursion}
use Rattle.std.specs.Map.{values_of}
use Rattle.iv_lines.specs.Genome.{Sequences, sequence_length}
use Rattle.iv_ledger.specs.Entries.{IsLedger, pair_cmp}
use Rattle.iv_depth.specs.Changes.{Entries, total, reaches}

-- the depth to which changes sum up to p
abbrev pub depth_by : Entries → ℕ → ℕ → ℕ
depth_by entries seq p = unsigned_abs (total (reaches seq p) entries)

-- the entries of one sequence, as positions and changes
abbrev pub on : ℕ → Entries → List (ℕ × ℤ)
on seq [] = []
on seq (e ∷ entries) = if e.0.0 == seq then (e.0.1, e.1) ∷ on seq entries else on seq entries

-- the sum of the changes at p and before
abbrev pub level : List (ℕ × ℤ) → ℕ → ℤ
level [] p = pos 0
level (b ∷ breaks) p = (if nat_le b.0 p then b.1 else pos 0) +ℤ level breaks p

-- positions from `from` up to `to`, that one included, rising, each with a change that is not 0
abbrev pub AreBreaks : ℕ → ℕ → List (ℕ × ℤ) → Type 0
AreBreaks from to [] = from ≤ to + 1
AreBreaks from to (b ∷ breaks) = (from ≤ b.0) × (b.0 ≤ to) × (b.1 ≢ pos 0) × AreBreaks (b.0 + 1) to breaks

-- from `from` on, f is this value and the changes that follow
abbrev pub Follows : (ℕ → ℕ) → ℕ → ℤ → List (ℕ × ℤ) → Type 0
Follows f from value breaks = (p : ℕ) → from ≤ p → value +ℤ level breaks p ≡ pos (f p)

-- the entries are the changes of the depth f by rank and position, which is 0 from the end of each sequence on: from this position of
-- the sequence of this rank on, up to which the depth is d
pub record AreAhead (g : Sequences) (f : ℕ → ℕ → ℕ) (seq from d : ℕ) (entries : Entries) : Type 0 where
  pub ordered : IsLedger pair_cmp entries
  pub changes : All (λ z. z ≢ pos 0) (values_of entries)
  pub ranks : AllByRecursion (λ e. seq ≤ e.0.0) entries
  pub breaks : AreBreaks from (sequence_length g seq) (on seq entries)
  pub follows : Follows (f seq) from (pos d) (on seq entries)
  pub later : (other p : ℕ) → seq < other → total (reaches other p) entries ≡ pos (f other p)
  pub small : (other p : ℕ) → f other p < 2 ^ 32
  pub ends : (other p : ℕ) → sequence_length g other ≤ p → f other p ≡ 0
