-- A walk over kept blocks, one read ahead. This is the state of a print, as seen by its proof.
use Rattle.std.specs.Prelude.{◌≡◌, ℕ, zero, suc, ◌+◌, ◌≤◌, ◌==◌, ◌&&◌, ◌||◌, nat_le, nat_lt, Bool, true, false, if◌then◌else◌, List, [], ◌∷◌, ◌++◌, Option, Some, None, length, drop}
use Rattle.std.specs.List.{flat_map, prefix_len, take_while}
use Rattle.iv_lines.specs.Genome.{Sequences, sequence_length, sequence_name}
use Rattle.iv_cover.specs.Runs.{Run}
use Rattle.iv_lines.specs.declared.interval.Interval.{Interval}
use Rattle.iv_blocks.specs.ComplementRows.{gap_row}
use Rattle.iv_blocks.specs.KeptBlocks.{Key, Kept}

-- the interval of a kept block
abbrev pub interval_of : Key × Kept → Interval
interval_of e = record { seq = e.0.0; start = e.0.2; stop = e.1.stop }

-- the block starts at this position of the sequence of this rank, or before it
abbrev pub starts_until : ℕ → ℕ → Interval → Bool
starts_until seq position b = nat_lt b.seq seq || ((b.seq == seq) && nat_le b.start position)

-- the first block, if there is one, doesn't pass the test
abbrev pub BeginsElse : {X : Type 0} → (X → Bool) → List X → Type 0
BeginsElse test [] = Unit {0}
BeginsElse test (b ∷ blocks) = test b ≡ false

-- a call gave the first of the blocks, which passes the test; or it gave none, as the first doesn't
abbrev pub GivesPassing : (Interval → Bool) → List Interval → Option Interval → List Interval → Type 0
GivesPassing test old (Some b) new = (old ≡ b ∷ new) × (test b ≡ true)
GivesPassing test old None new = (new ≡ old) × BeginsElse test old

-- the blocks from the first on that doesn't pass the test
abbrev pub drop_while : (Interval → Bool) → List Interval → List Interval
drop_while test blocks = drop (prefix_len test blocks) blocks

-- between the two readings of a meter is at most one step for each block that is not left
pub record TakesForEach (before after : ℕ) (all left : List Interval) : Type 0 where
  pub no_less : before ≤ after
  pub at_most : after + length left ≤ before + length all

-- the positions from one to another, which is not included, if there are any
abbrev pub gap_between : ℕ → ℕ → List Run
gap_between from to = if nat_lt from to then record { start = from; stop = to; value = 0 } ∷ [] else []

-- the gaps in front of blocks, between them and after them, from one position to another; none if there is no block, unless `shown`
abbrev pub gaps_between : Bool → ℕ → ℕ → List Interval → List Run
gaps_between shown from to [] = if shown then gap_between from to else []
gaps_between shown from to (b ∷ blocks) = gap_between from b.start ++ gaps_between true b.stop to blocks

-- the rows of the gaps of one sequence, with these blocks on it
abbrev pub sequence_text : Bool → Sequences → ℕ → List Interval → List ℕ
sequence_text wanted g seq blocks = flat_map (gap_row (sequence_name g seq)) (gaps_between wanted 0 (sequence_length g seq) blocks)

-- the rows of the gaps of so many sequences from this rank on, with the blocks that remain
unfoldable pub texts : Bool → Sequences → ℕ → ℕ → List Interval → List ℕ
texts wanted g seq zero blocks = []
texts wanted g seq (suc n) blocks =
    sequence_text wanted g seq (take_while (starts_until seq (sequence_length g seq)) blocks)
    ++ texts wanted g (seq + 1) n (drop_while (starts_until seq (sequence_length g seq)) blocks)
