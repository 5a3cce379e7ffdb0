-- How what is kept of a block is stored.
use Rattle.iv_blocks.specs.KeptBlocks.{Kept}
use Rattle.iv_blocks.specs.declared.kept_block.Storage.{Storage}
use Rattle.iv_blocks.specs.declared.kept_block.Storage.TheVariants.{Short, Long}

-- the block that is stored so
abbrev pub block_at : {A : Type 0} → Storage A → Kept
block_at (Short block) = block
block_at (Long block) = block.value
