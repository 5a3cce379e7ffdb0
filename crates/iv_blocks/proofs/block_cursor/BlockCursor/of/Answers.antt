use Rattle.std.proofs.Common.{◌∙◌, ap, map}
use Rattle.iv_blocks.specs.Inside.BlockCursor.{interval_of}
use Rattle.iv_blocks.specs.KeptBlocks.{KeptBlocks, Entries}
use Rattle.iv_cover.proofs.ReadAheadLemmas.{ahead-read}
use Rattle.iv_blocks.proofs.block_cursor.BlockCursor.of.Goals as goal

pub returns-clause-all : goal.returns-clause-all
returns-clause-all g c =
    ahead-read _ _ _ c.read-next.ensures.next
    ∙ ap (λ (l : Entries). map interval_of l) (c.walk_all-walk.ensures.entries ∙ ap (λ (b : KeptBlocks). b.entries) c.blocks-2.view_is)
