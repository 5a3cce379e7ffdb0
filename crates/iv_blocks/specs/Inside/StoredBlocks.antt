-- How blocks are stored by key.
use Rattle.std.specs.Prelude.{◌≡◌, ℕ, Bool, true, false, [], map}
use Rattle.iv_blocks.specs.Groups.{listed}
use Rattle.iv_blocks.specs.KeptBlocks.{Key, Kept, Entries}
use Rattle.iv_blocks.specs.declared.block_ledger.BlockEntry.{BlockEntry}
use Rattle.iv_blocks.specs.declared.block_ledger.Rest.{Rest}
use Rattle.iv_blocks.specs.declared.block_ledger.Rest.TheVariants as left
use Rattle.iv_blocks.specs.declared.block_ledger.Storage.{Storage}
use Rattle.iv_blocks.specs.declared.block_ledger.Storage.TheVariants as all
use Rattle.iv_blocks.specs.declared.options.BlockOptions.{BlockOptions}

-- whether results are kept, and the blocks by key
pub record StoredBlocks : Type 0 where
  pub with_results : Bool
  pub entries : Entries

-- the entry of a block without results, by its stop
abbrev pub plain_entry : Key × ℕ → Key × Kept
plain_entry e = (e.0, record { stop = e.1; results = [] })

-- the key and the stop of an entry
abbrev pub key_and_stop : Key × Kept → Key × ℕ
key_and_stop e = (e.0, e.1.stop)

-- the blocks that are stored so
abbrev pub stored : {A : Type 0} → Storage A → StoredBlocks
stored (all.Plain ledger) = record { with_results = false; entries = map plain_entry ledger }
stored (all.WithResults ledger) = record { with_results = true; entries = ledger }

-- the entries that a walk has left
abbrev pub entries_left : {A : Type 0} → Rest A → Entries
entries_left (left.Plain walk) = map plain_entry walk
entries_left (left.WithResults walk) = walk

-- the entry that a walk gives
abbrev pub entry_shown : BlockEntry → Key × Kept
entry_shown e = (e.key, record { stop = e.stop; results = e.results.now })

-- results are kept, or there are no summaries
abbrev pub KeepsResults : BlockOptions → StoredBlocks → Type 0
KeepsResults o blocks = blocks.with_results ≡ false → listed o.summaries ≡ []
