use Rattle.std.proofs.Common.{◌∙◌, ◌++◌, None, map, ap}
use Rattle.iv_cover.specs.Inside.RemainingBlocks.{remaining_blocks}
use Rattle.iv_track.proofs.WalkLemmas.{filter-from_first}
use Rattle.iv_blocks.specs.Groups.{listed}
use Rattle.iv_blocks.specs.KeptBlocks.{Entries}
use Rattle.iv_blocks.specs.Inside.UnstrandedBlocks.{kept_entry}
use Rattle.iv_blocks.proofs.entries.entries_of.Goals as goal

pub loop-block-init : goal.loop-block-init
loop-block-init g c =
    let entries = map (kept_entry c.args.genome.now (listed c.args.options.now.summaries)) in
    ap (λ (l : Entries). l ++ entries c.of-blocks.result) c.in_ok-built.ensures
    ∙ ap entries (c.of-blocks.ensures.left ∙ ap (remaining_blocks c.args.options.now.distance None) (c.walk.ensures.records ∙ filter-from_first c.args.track.now.records))
