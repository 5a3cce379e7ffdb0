-- The depth along a sequence, from its changes, as a print goes over them.
use Rattle.std.specs.Prelude.{◌≡◌, ◌≢◌, ℕ, ◌+◌, ◌<◌, ◌≤◌, ◌^◌, Option, Some, None, ℤ, pos, ◌+ℤ◌}
use Rattle.iv_lines.specs.Genome.{Sequences, sequence_length}

-- f is d from this position up to that of the change, which is on the sequence, and has another value there, d and the change
pub record IsChange (f : ℕ → ℕ) (from length d : ℕ) (c : ℕ × ℤ) : Type 0 where
  pub low : from ≤ c.0
  pub high : c.0 ≤ length
  pub same : (q : ℕ) → from ≤ q → q < c.0 → f q ≡ d
  pub other : from < c.0 → d ≢ f c.0
  pub sum : pos d +ℤ c.1 ≡ pos (f c.0)
  pub small : f c.0 < 2 ^ 63

-- `are_of s g f rank from d`: s has the changes of the depth f by rank and position, from this position of the sequence of this rank
-- on, up to which the depth is d. `are_past s g f rank`: it has those from this sequence on

-- a call gave the next change on the sequence of this rank, or there is none
abbrev pub Gives : {T : Type 0} → (T → Sequences → (ℕ → ℕ → ℕ) → ℕ → ℕ → ℕ → Type 0) → (T → Sequences → (ℕ → ℕ → ℕ) → ℕ → Type 0)
    → ℕ → T → Option (ℕ × ℤ) → T → Type 0
Gives are_of are_past seq old (Some c) new =
    (g : Sequences) (f : ℕ → ℕ → ℕ) (from d : ℕ) → are_of old g f seq from d
    → IsChange (f seq) from (sequence_length g seq) d c × are_of new g f seq c.0 (f seq c.0)
Gives are_of are_past seq old None new =
    (g : Sequences) (f : ℕ → ℕ → ℕ) (from d : ℕ) → are_of old g f seq from d
    → ((q : ℕ) → from ≤ q → f seq q ≡ d) × are_past new g f (seq + 1)
