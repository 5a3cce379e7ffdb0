use Rattle.std.proofs.Common.{◌∙◌, ◌++◌, ℕ, List, None, map, ap}
use Rattle.iv_cover.specs.Inside.RemainingBlocks.{remaining_blocks}
use Rattle.iv_track.proofs.WalkLemmas.{filter-from_first}
use Rattle.iv_blocks.specs.KeptBlocks.{Key}
use Rattle.iv_blocks.specs.Inside.UnstrandedBlocks.{stop_entry}
use Rattle.iv_blocks.proofs.entries.stops_of.Goals as goal

pub loop-block-init : goal.loop-block-init
loop-block-init g c =
    ap (λ (l : List (Key × ℕ)). l ++ map stop_entry c.of-blocks.result) c.in_ok-built.ensures
    ∙ ap (map stop_entry) (c.of-blocks.ensures.left ∙ ap (remaining_blocks c.args.distance None) (c.walk.ensures.records ∙ filter-from_first c.args.track.now.records))
