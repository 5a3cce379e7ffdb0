-- The blocks of one group that may share a position with a region. This is the state of a print, as seen by its proof.
use Rattle.std.specs.Prelude.{◌≡◌, ◌⊎◌, ℕ, ◌<◌, ◌≤◌, ◌&&◌, nat_lt, Bool, true, false, List, [], filter, Option, None, Some, if◌then◌else◌}
use Rattle.std.specs.BTreeMap.{is_at}
use Rattle.iv_lines.specs.Genome.{Sequences, sequence_length}
use Rattle.iv_lines.specs.RecordValue.{RecordValue}
use Rattle.iv_ledger.specs.Entries.{value_at}
use Rattle.iv_cover.specs.Depth.{depth}
use Rattle.iv_cover.specs.Runs.{Run, empty_runs}
use Rattle.iv_blocks.specs.Inside.Insertion.{key_of}
use Rattle.iv_blocks.specs.Inside.Texts.{is_shown}
use Rattle.iv_blocks.specs.KeptBlocks.{Entries, Key, Kept, key_cmp}
use Rattle.iv_blocks.specs.declared.group.Group.{Group}
use Rattle.iv_track.specs.Regions.{shares}

-- the blocks before `low` stop at the position or before it, and those from `low` on stop past it
pub record ReachesFrom (look : ℕ → Option Kept) (position low : ℕ) : Type 0 where
  pub before : (x : ℕ) (b : Kept) → x < low → look x ≡ Some b → b.stop ≤ position
  pub after : (x : ℕ) (b : Kept) → low ≤ x → look x ≡ Some b → position < b.stop

-- a print goes on at this block: it has no end, or the block is of the group and starts before the position
abbrev pub goes_on : Option (Group × ℕ) → Key × Kept → Bool
goes_on None e = true
goes_on (Some until) e = is_at (key_cmp (key_of until.0 e.0.2)) e.0 && nat_lt e.0.2 until.1

-- what is kept of the block of a sequence that starts at x, if there is one and strands are together
abbrev pub kept_on : Entries → ℕ → ℕ → Option Kept
kept_on entries seq x = value_at key_cmp entries (seq, false, x)

-- a gap may begin at `low`: a block stops there, or it is the start of the sequence and no block starts there
abbrev pub BeginsGap : (ℕ → Option Kept) → ℕ → Type 0
BeginsGap look low = ((low ≡ 0) × (look 0 ≡ None)) ⊎ ((x : ℕ) × (b : Kept) × (look x ≡ Some b) × (low ≡ b.stop))

-- the gaps from `low` on that share a position with the region; none if the sequence isn't shown
abbrev pub gaps_from : Bool → Sequences → List RecordValue → ℕ → ℕ → ℕ → ℕ → List Run
gaps_from limited g records seq start stop low =
    if is_shown limited records seq
    then filter (λ gap. shares start stop gap.start gap.stop) (empty_runs (depth records seq) low (sequence_length g seq))
    else []
