-- What is kept for views, kind by kind.
use Rattle.std.specs.Prelude.{ℕ, ◌+◌, ◌*◌, List, Option, None, Some, length}
use Rattle.iv_lines.specs.Genome.{Sequences}
use Rattle.iv_lines.specs.RecordValue.{RecordValue}
use Rattle.iv_ledger.specs.Steps.{TakesUpTo}
use Rattle.iv_blocks.specs.Groups.{plain_options}
use Rattle.iv_blocks.specs.KeptBlocks.{AreBlocksOf, block_steps}
use Rattle.iv_blocks.specs.MergeRows.{all_blocks}
use Rattle.iv_depth.specs.Changes.{AreChangesOf}
use Rattle.iv_depth.specs.DepthRows.{all_covered_runs}
use Rattle.iv_view.specs.declared.kept_state.KeptState.{KeptState}
use Rattle.iv_view.specs.declared.kept_state.KeptState.TheVariants as state
use Rattle.iv_view.specs.declared.kept_state.StateKey.{StateKey}
use Rattle.iv_view.specs.declared.kept_state.StateKey.TheVariants as keep
use Rattle.iv_view.specs.declared.view.View.{View}
use Rattle.iv_view.specs.declared.view.View.TheVariants as view
use Rattle.iv_view.specs.declared.view.KeptView.{KeptView}
use Rattle.iv_view.specs.declared.view.KeptView.TheVariants as kept

-- what is kept for a view: the blocks at its distance, or the depth
abbrev pub state_key : KeptView → StateKey
state_key (kept.Merge options) = keep.Blocks options
state_key (kept.Cluster distance) = keep.Blocks (plain_options distance)
state_key (kept.Complement limited) = keep.Blocks (plain_options 0)
state_key (kept.Genomecov shown) = keep.Depth

-- what is kept for any view: nothing for one that is written from the records
abbrev pub state_key_of : View → Option StateKey
state_key_of (view.Kept v) = Some (state_key v)
state_key_of (view.Written v) = None

-- what a state keeps
abbrev pub built_for : {A : Type 0} → KeptState A → StateKey
built_for (state.Blocks b) = keep.Blocks b.options
built_for (state.Depth d) = keep.Depth

-- the state is right for a genome of these names and these records
abbrev pub IsRight : {A : Type 0} → KeptState A → List (List ℕ) → List RecordValue → Type 0
IsRight (state.Blocks b) names records = AreBlocksOf b.options names records b.entries
IsRight (state.Depth d) names records = AreChangesOf records d

-- how many steps a repair of what is kept takes at most, with the record among the records
abbrev pub repair_steps : StateKey → List RecordValue → RecordValue → ℕ
repair_steps (keep.Blocks options) records r = block_steps options records r
repair_steps keep.Depth records r = 8

-- how many steps a repair for a view takes at most: none for one that is written from the records
abbrev pub repair_steps_of : View → List RecordValue → RecordValue → ℕ
repair_steps_of (view.Kept v) records r = repair_steps (state_key v) records r
repair_steps_of (view.Written v) records r = 0

-- how many steps lie between two readings at most while a view is printed from what is kept for it: two, and one more for each
-- block, or two more for each row of a depth above 0; of `cluster`, which prints every record, four, and one more for each record and
-- each block
abbrev pub PrintsWithin : KeptView → Sequences → List RecordValue → ℕ → ℕ → Type 0
PrintsWithin (kept.Merge options) g records old new = TakesUpTo old new (2 + length (all_blocks options g records))
PrintsWithin (kept.Cluster distance) g records old new = TakesUpTo old new (4 + length records + length (all_blocks (plain_options distance) g records))
PrintsWithin (kept.Complement limited) g records old new = TakesUpTo old new (2 + length (all_blocks (plain_options 0) g records))
PrintsWithin (kept.Genomecov shown) g records old new = TakesUpTo old new (2 + 2 * length (all_covered_runs g records))
