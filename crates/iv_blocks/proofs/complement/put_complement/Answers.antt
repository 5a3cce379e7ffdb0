use Rattle.std.proofs.Common.{◌∙◌, List, map, ap, not}
use Rattle.iv_lines.specs.Genome.{seq_count}
use Rattle.iv_cover.specs.Inside.TrackBlocks.{BlockWithMembers}
use Rattle.iv_blocks.specs.Inside.BlockCursor.{texts}
use Rattle.iv_blocks.specs.Inside.BlockSweeps.{interval_of}
use Rattle.iv_blocks.proofs.ComplementTexts.{gap-texts}
use Rattle.iv_blocks.proofs.complement.put_complement.Goals as goal

pub returns : goal.returns
returns g c =
    let genome = c.args.genome.now in
    let text = ap (λ (bs : List BlockWithMembers). texts (not c.args.limited) genome 0 (seq_count genome) (map interval_of bs)) ((rw c.again.ensures at c.of-blocks.ensures.blocks) c.requires.order genome c.requires.on_genome)
    ∙ gap-texts genome c.args.records.now c.args.limited c.requires.on_genome in
    rw text at c.put_gaps.ensures.text
