-- Blocks that are inserted over those that are kept.
use Rattle.std.specs.Prelude.{◌≡◌, ◌≢◌, ◌⊎◌, ℕ, Bool, List}
use Rattle.std.specs.Option.{option_or}
use Rattle.std.specs.BTreeMap.{insert_entry}
use Rattle.iv_lines.specs.Genome.{Sequences, sequence_name}
use Rattle.iv_lines.specs.RecordValue.{RecordValue}
use Rattle.iv_ledger.specs.Entries.{IsLedger, value_at}
use Rattle.iv_blocks.specs.Groups.{listed}
use Rattle.iv_blocks.specs.Inside.Groups.{is_minus, members_between}
use Rattle.iv_blocks.specs.KeptBlocks.{Key, key_cmp, KeptBlocks, kept_block, kept_at}
use Rattle.iv_blocks.specs.declared.group.Group.{Group}

-- the key of a group's block that starts at x
abbrev pub key_of : Group → ℕ → Key
key_of g x = (g.seq, is_minus g.side, x)

-- the key is of another group
abbrev pub IsOfOther : Group → Key → Type 0
IsOfOther g k = (k.0 ≢ g.seq) ⊎ (k.1 ≢ is_minus g.side)

-- what is kept, with a group's block from start to stop inserted over what was there
abbrev pub with_block : KeptBlocks → Sequences → List RecordValue → Group → ℕ → ℕ → KeptBlocks
with_block kept genome records g start stop = record kept {
  entries = insert_entry key_cmp kept.entries (key_of g start)
      (kept_block (sequence_name genome g.seq) (listed kept.options.summaries) (stop, members_between g start stop records));
}

-- the blocks of a group's records are inserted over what was there, and nothing else is changed
pub record AreInserted (g : Group) (names : List (List ℕ)) (records : List RecordValue) (old new : KeptBlocks) : Type 0 where
  pub options : new.options ≡ old.options
  pub ordered : IsLedger key_cmp new.entries
  pub here : (x : ℕ) → value_at key_cmp new.entries (key_of g x) ≡ option_or (kept_at old.options names records (key_of g x)) (value_at key_cmp old.entries (key_of g x))
  pub others : (k : Key) → IsOfOther g k → value_at key_cmp new.entries k ≡ value_at key_cmp old.entries k

-- the blocks of the records on one sequence, of both sides, are inserted over what was there, and nothing else is changed
pub record AreInsertedOn (seq : ℕ) (names : List (List ℕ)) (records : List RecordValue) (old new : KeptBlocks) : Type 0 where
  pub options : new.options ≡ old.options
  pub ordered : IsLedger key_cmp new.entries
  pub here : (minus : Bool) (x : ℕ) → value_at key_cmp new.entries (seq, minus, x) ≡ option_or (kept_at old.options names records (seq, minus, x)) (value_at key_cmp old.entries (seq, minus, x))
  pub others : (k : Key) → k.0 ≢ seq → value_at key_cmp new.entries k ≡ value_at key_cmp old.entries k
