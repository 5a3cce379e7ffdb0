-- Blocks of one group by position, before and after an edit.
use Rattle.std.specs.Prelude.{◌≡◌, ◌⊎◌, ℕ, zero, suc, ◌+◌, ◌<◌, ◌≤◌, ◌==◌, max, true, All, List, [], ◌∷◌, Option, None, Some, if◌then◌else◌}
use Rattle.std.specs.List.{list_any}
use Rattle.std.specs.Option.{is_some}
use Rattle.std.specs.Map.{remove_entry}
use Rattle.std.specs.BTreeMap.{is_at}
use Rattle.iv_ledger.specs.Entries.{IsLedger, value_at}
use Rattle.iv_cover.specs.Inside.Blocks.{reaches}
use Rattle.iv_cover.specs.Blocks.{start_of, stop_of}
use Rattle.iv_blocks.specs.KeptBlocks.{Key, key_cmp, Kept, KeptBlocks}
use Rattle.iv_blocks.specs.Inside.Lookups.{IsLastBlock}
use Rattle.iv_blocks.specs.Inside.Insertion.{key_of, IsOfOther}
use Rattle.iv_blocks.specs.declared.group.Group.{Group}
use Rattle.iv_blocks.specs.declared.options.BlockOptions.{BlockOptions}
use Rattle.iv_blocks.specs.Groups.{listed}
use Rattle.iv_blocks.specs.Inside.Groups.{members_between}
use Rattle.iv_lines.specs.RecordValue.{RecordValue}

-- what is kept, without the group's block that starts at x
abbrev pub without_block : KeptBlocks → Group → ℕ → KeptBlocks
without_block kept g x = record kept { entries = remove_entry (is_at (key_cmp (key_of g x))) kept.entries }

-- nothing is kept of the records in a block, and the first of the group's that start within these bounds has all of them
pub record StaysCovered (o : BlockOptions) (g : Group) (records : List RecordValue) (start stop : ℕ) : Type 0 where
  pub plain : listed o.summaries ≡ []
  pub first : RecordValue
  pub rest : List RecordValue
  pub members : members_between g start stop records ≡ first ∷ rest
  pub starts : first.start ≡ start
  pub reaches : stop ≤ first.stop

-- a block went from block.0 to block.1, and a record from gone.0 to gone.1 was in it. These are its other records: one starts where
-- the block does unless that one does, and each position that the block reaches is reached by one of them that starts before, unless
-- that one reaches it
pub record AreOthers (d : ℕ) (block gone : ℕ × ℕ) (records : List RecordValue) : Type 0 where
  pub within : block.0 ≤ gone.0
  pub below : gone.0 ≤ block.1
  pub stops : All (λ r. r.stop ≤ block.1) records
  pub starts : block.0 < gone.0 → list_any (λ r. r.start == block.0) records ≡ true
  pub reached : (x : ℕ) → block.0 < x → x ≤ block.1 + d → (x ≤ gone.0) ⊎ (gone.1 + d < x) → list_any (reaches start_of stop_of d x) records ≡ true

-- nothing except blocks of this group may have changed
pub record KeepsOthers (g : Group) (old new : KeptBlocks) : Type 0 where
  pub options : new.options ≡ old.options
  pub ordered : IsLedger key_cmp new.entries
  pub others : (k : Key) → IsOfOther g k → value_at key_cmp new.entries k ≡ value_at key_cmp old.entries k

-- the last block that starts at `start` or before it reaches it, over a gap of at most d. It is taken out and joined with the
-- interval from `start` to `stop`
pub record JoinsOne (d : ℕ) (old new : ℕ → Option Kept) (start stop : ℕ) (joined : ℕ × ℕ) : Type 0 where
  pub stops : ℕ
  pub last : IsLastBlock old start (joined.0, stops)
  pub reaches : start ≤ stops + d
  pub high : joined.1 ≡ max stops stop
  pub taken : (x : ℕ) → new x ≡ (if x == joined.0 then None else old x)

-- the last block that starts at `start` or before it doesn't reach it, or there is none. Nothing is changed
pub record JoinsNone (d : ℕ) (old new : ℕ → Option Kept) (start stop : ℕ) (joined : ℕ × ℕ) : Type 0 where
  pub same : (x : ℕ) → new x ≡ old x
  pub joined_is : joined ≡ (start, stop)
  pub apart : ((x : ℕ) → x ≤ start → old x ≡ None) ⊎ ((b : ℕ × ℕ) × IsLastBlock old start b × (b.1 + d < start))

-- the interval from `start` to `stop` is joined with the block before it, if that reaches it
abbrev pub JoinsBefore : ℕ → (ℕ → Option Kept) → (ℕ → Option Kept) → ℕ → ℕ → ℕ × ℕ → Type 0
JoinsBefore d old new start stop joined = JoinsOne d old new start stop joined ⊎ JoinsNone d old new start stop joined

-- the blocks that start at `from` or after it, and that an interval up to `high` reaches, each making it longer, are taken out; at
-- last it goes up to `to`
pub record JoinsAfter (d : ℕ) (old new : ℕ → Option Kept) (from high to : ℕ) : Type 0 where
  pub no_less : high ≤ to
  pub clear : (x : ℕ) → from ≤ x → x ≤ to + d → new x ≡ None
  pub others : (x : ℕ) → (x < from) ⊎ (to + d < x) → new x ≡ old x
  pub within : (x : ℕ) (b : Kept) → from ≤ x → x ≤ to + d → old x ≡ Some b → b.stop ≤ to
  pub reached : (y : ℕ) → high + d < y → y ≤ to + d → (x : ℕ) × (b : Kept) × (old x ≡ Some b) × (x < y) × (y ≤ b.stop + d)

-- how many blocks start at one of the n positions from p on
unfoldable pub count_from : (ℕ → Option Kept) → ℕ → ℕ → ℕ
count_from look p zero = 0
count_from look p (suc n) = (if is_some (look (p + n)) then 1 else 0) + count_from look p n
