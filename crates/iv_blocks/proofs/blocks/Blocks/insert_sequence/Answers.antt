use Rattle.std.proofs.Common.{◌≡◌, ap, ◌∙◌}
use Rattle.std.specs.Option.{unwrap_or}
use Rattle.std.proofs.lemmas.Result.{on_ok_weaker}
use Rattle.iv_lines.specs.Genome.{sequence_length}
use Rattle.iv_blocks.specs.declared.group.Side.TheVariants.{Plus, Minus}
use Rattle.iv_blocks.proofs.Builds.{all-others, put-both}
use Rattle.iv_blocks.proofs.blocks.Blocks.insert_sequence.Goals as goal

pub split_block-requires-clause-rest : goal.split_block-requires-clause-rest
split_block-requires-clause-rest g c =
    let long : c.unwrap_or-length.result ≡ sequence_length c.args.genome.now c.args.seq = c.unwrap_or-length.ensures ∙ ap (λ o. unwrap_or o 0) c.length_u32.ensures.value in
    all-others c.args.genome.now c.args.track.now.width c.args.track.now.records c.requires.fit (record { seq = c.args.seq; side = Plus }) c.unwrap_or-length.result _ long

pub split_block-requires-2-clause-rest : goal.split_block-requires-2-clause-rest
split_block-requires-2-clause-rest g c =
    let long : c.unwrap_or-length.result ≡ sequence_length c.args.genome.now c.args.seq = c.unwrap_or-length.ensures ∙ ap (λ o. unwrap_or o 0) c.length_u32.ensures.value in
    all-others c.args.genome.now c.args.track.now.width c.args.track.now.records c.requires.fit (record { seq = c.args.seq; side = Minus }) c.unwrap_or-length.result _ long

pub returns : goal.returns
returns g c =
    let a = c.args in
    let long : c.unwrap_or-length.result ≡ sequence_length c.args.genome.now c.args.seq = c.unwrap_or-length.ensures ∙ ap (λ o. unwrap_or o 0) c.length_u32.ensures.value in
    on_ok_weaker c.split_block-2.result (λ second.
    put-both a.genome.now a.track.now.width a.track.now.records c.requires.fit a.seq c.unwrap_or-length.result long a.self.now c.split_block.new.self c.split_block-2.new.self
    c.in_ok-split_block.ensures.ok second) c.split_block-2.ensures.ok
