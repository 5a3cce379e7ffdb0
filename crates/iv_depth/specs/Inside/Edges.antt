-- Starts and stops of records, as numbers in order, and the net changes of depth there. This is the state of a sweep and of a build,
-- as seen by their proofs.
use Rattle.std.specs.Prelude.{◌≡◌, ◌≢◌, ℕ, ◌+◌, ◌<◌, ◌≤◌, ◌^◌, nat_le, Bool, List, [], ◌∷◌, Option, Some, None, length, map, count_by, if◌then◌else◌, ℤ, pos, ◌+ℤ◌, ◌-ℤ◌}
use Rattle.iv_lines.specs.RecordValue.{RecordValue}
use Rattle.iv_cover.specs.Blocks.{stop_of}

-- how many of the numbers are p or less
abbrev pub up_to : ℕ → List ℕ → ℕ
up_to p [] = 0
up_to p (n ∷ ns) = (if nat_le n p then 1 else 0) + up_to p ns

-- the numbers rise from this one on, and may repeat
abbrev pub Rise : ℕ → List ℕ → Type 0
Rise from [] = Unit {0}
Rise from (n ∷ ns) = (from ≤ n) × Rise n ns

-- the first number, if there is one, is another one
abbrev pub BeginsElse : ℕ → List ℕ → Type 0
BeginsElse p [] = Unit {0}
BeginsElse p (n ∷ ns) = n ≢ p

-- these are the stops of the records, from the least to the greatest
pub record AreStopsOf (records : List RecordValue) (stops : List ℕ) : Type 0 where
  pub rise : Rise 0 stops
  pub sums : (p : ℕ) → up_to p stops ≡ up_to p (map stop_of records)

-- so many of the old numbers are passed, all of them this one, and the new numbers, which rise from another one on, are left
pub record Passes (n count from : ℕ) (old new : List ℕ) : Type 0 where
  pub sums : (passes : ℕ → Bool) → count_by passes old ≡ (if passes n then count else 0) + count_by passes new
  pub rise : Rise from new

-- the number is the least of these
pub record IsLeast (starts stops : List ℕ) (n : ℕ) : Type 0 where
  pub least : (from : ℕ) → Rise from starts → Rise from stops → from ≤ n
  pub starts_rise : (from : ℕ) → Rise from starts → Rise n starts
  pub stops_rise : (from : ℕ) → Rise from stops → Rise n stops
  pub first : BeginsElse n starts → BeginsElse n stops → ⊥

-- the starts and stops that remain
pub record Remaining : Type 0 where
  pub starts : List ℕ
  pub stops : List ℕ

-- how many there are
abbrev pub edge_count : Remaining → ℕ
edge_count edges = length edges.starts + length edges.stops

-- both rise from this number on
pub record RiseFrom (from : ℕ) (edges : Remaining) : Type 0 where
  pub starts : Rise from edges.starts
  pub stops : Rise from edges.stops

-- how many starts there are more than stops, among the numbers that pass
abbrev pub net : (ℕ → Bool) → Remaining → ℤ
net passes edges = pos (count_by passes edges.starts) -ℤ pos (count_by passes edges.stops)

-- both rise, and up to each position f is how many starts there are more than stops
pub record AreEdgesOf (f : ℕ → ℕ) (edges : Remaining) : Type 0 where
  pub rise : RiseFrom 0 edges
  pub depths : (p : ℕ) → pos (f p) ≡ net (λ n. nat_le n p) edges

-- the new ones are left of the old ones, and at the others as many start as stop
pub record SkipsEdges (from : ℕ) (old new : Remaining) : Type 0 where
  pub sums : (passes : ℕ → Bool) → net passes old ≡ net passes new
  pub rise : RiseFrom from new

-- the first of the old numbers with a change that is not 0 is this one, and the new ones are those after it
pub record TakesChange (from : ℕ) (old : Remaining) (n : ℕ) (change : ℤ) (new : Remaining) : Type 0 where
  pub low : from ≤ n
  pub other : change ≢ pos 0
  pub sums : (passes : ℕ → Bool) → net passes old ≡ (if passes n then change else pos 0) +ℤ net passes new
  pub later : RiseFrom (n + 1) new

-- a call gave the next change that is not 0, or there is none
abbrev pub GivesChange : Remaining → Option (ℕ × ℤ) → Remaining → Type 0
GivesChange old (Some c) new = (from : ℕ) → RiseFrom from old → TakesChange from old c.0 c.1 new
GivesChange old None new = (from : ℕ) → RiseFrom from old → (passes : ℕ → Bool) → net passes old ≡ pos 0

-- f is the depth that goes up at the starts and down at the stops, from a position of this depth on, and is 0 from the length on
pub record IsAhead (f : ℕ → ℕ) (from length depth : ℕ) (edges : Remaining) : Type 0 where
  pub rise : RiseFrom from edges
  pub low : from ≤ length
  pub depths : (p : ℕ) → from ≤ p → pos (f p) ≡ pos depth +ℤ net (λ n. nat_le n p) edges
  pub small : (p : ℕ) → f p < 2 ^ 63
  pub ends : (p : ℕ) → length ≤ p → f p ≡ 0
