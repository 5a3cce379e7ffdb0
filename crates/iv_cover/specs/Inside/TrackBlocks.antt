-- The blocks of a track's records, with the records that are in them, sequence by sequence.
use Rattle.std.specs.Prelude.{◌≡◌, ℕ, List, [], ◌∷◌, map, Option, None, Some}
use Rattle.std.specs.List.{flat_map, range_with_len}
use Rattle.iv_lines.specs.CoveredPositions.{on}
use Rattle.iv_lines.specs.Genome.{Sequences, sequence_length, seq_count}
use Rattle.iv_lines.specs.RecordValue.{RecordValue}
use Rattle.iv_lines.specs.declared.interval.Interval.{Interval}
use Rattle.iv_cover.specs.Blocks.{blocks_below, start_of, stop_of}

-- a block on the sequence of this rank, from its start to its stop, with the records that are in it, in the order of the track
pub record BlockWithMembers : Type 0 where
  pub sequence : ℕ
  pub start : ℕ
  pub stop : ℕ
  pub members : List RecordValue

-- a block that starts at b.0, stops at b.1.0 and has the records b.1.1, on the sequence of this rank
abbrev pub block_on : ℕ → ℕ × (ℕ × List RecordValue) → BlockWithMembers
block_on sequence b = record { sequence = sequence; start = b.0; stop = b.1.0; members = b.1.1 }

-- the blocks on the sequence of this rank, by start
abbrev pub blocks_on : ℕ → Sequences → List RecordValue → ℕ → List BlockWithMembers
blocks_on d g records sequence =
    map (block_on sequence) (blocks_below start_of stop_of d (on sequence records) (sequence_length g sequence))

-- all blocks: those of each sequence, by rank
abbrev pub blocks_of : ℕ → Sequences → List RecordValue → List BlockWithMembers
blocks_of d g records = flat_map (blocks_on d g records) (range_with_len 0 (seq_count g))

-- a block as a call gives it, with these members
abbrev pub with_members : Interval → List RecordValue → BlockWithMembers
with_members b members = record { sequence = b.seq; start = b.start; stop = b.stop; members = members }

-- a call gave the first of the blocks, without its members, and left the others; or there was none, and it gave none
abbrev pub GivesFirst : List BlockWithMembers → Option Interval → List BlockWithMembers → Type 0
GivesFirst old None new = (old ≡ []) × (new ≡ [])
GivesFirst old (Some b) new = (members : List RecordValue) × (old ≡ with_members b members ∷ new)
