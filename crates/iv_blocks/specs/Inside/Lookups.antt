-- The blocks of one group by position, as look-ups and repairs see them.
use Rattle.std.specs.Prelude.{◌≡◌, ℕ, ◌<◌, ◌≤◌, List, Option, None, Some}
use Rattle.iv_ledger.specs.Entries.{value_at}
use Rattle.iv_blocks.specs.KeptBlocks.{key_cmp, Kept, Entries}
use Rattle.iv_blocks.specs.Inside.Insertion.{key_of}
use Rattle.iv_blocks.specs.declared.group.Group.{Group}

-- what is kept of the block of this group that starts at x, if there is one
abbrev pub kept_in : Entries → Group → ℕ → Option Kept
kept_in entries g x = value_at key_cmp entries (key_of g x)

-- b starts at b.0 and stops at b.1, and is the last block that starts at the position or before it
pub record IsLastBlock (look : ℕ → Option Kept) (position : ℕ) (b : ℕ × ℕ) : Type 0 where
  pub within : b.0 ≤ position
  pub results : List ℕ
  pub is : look b.0 ≡ Some (record { stop = b.1; results = results })
  pub none : (x : ℕ) → b.0 < x → x ≤ position → look x ≡ None

-- b starts at b.0 and stops at b.1, and is the first block that starts at the position or after it
pub record IsFirstBlock (look : ℕ → Option Kept) (position : ℕ) (b : ℕ × ℕ) : Type 0 where
  pub within : position ≤ b.0
  pub results : List ℕ
  pub is : look b.0 ≡ Some (record { stop = b.1; results = results })
  pub none : (x : ℕ) → position ≤ x → x < b.0 → look x ≡ None
