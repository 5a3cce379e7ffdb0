use Rattle.std.proofs.Common.{◌≡◌, ◌∙◌, ap, arith, min}
use Rattle.std.specs.Option.{unwrap_or}
use Rattle.iv_lines.specs.Genome.{sequence_length}
use Rattle.iv_blocks.specs.Inside.Groups.{is_minus}
use Rattle.iv_blocks.proofs.RegionLemmas.{reaches-none, reaches-past, reaches-some}
use Rattle.iv_blocks.proofs.blocks.Blocks.reaching_from.Goals as goal

pub returns-then-from-position-clause-low : goal.returns-then-from-position-clause-low
returns-then-from-position-clause-low g c =
    let a = c.args in
    let end : c.from.result ≡ sequence_length a.genome.now a.group.seq = c.from.ensures ∙ c.unwrap_or-end.ensures ∙ ap (λ o. unwrap_or o 0) c.length_u32.ensures.value in
    let last : c.min-last.result ≡ min (sequence_length a.genome.now a.group.seq) a.position = c.min-last.ensures ∙ ap (λ n. min n a.position) end in
    reaches-some a.self.now.options a.genome.now a.track.now.width a.track.now.records a.self.now.entries c.requires.right c.requires.fit a.group.seq (is_minus a.group.side)
    a.position c.min-last.result last (c.in-Some.start, c.in-Some.stop) c.in-Some.ensures.found (omega (arith, c.if-from-position.true, c.from-in-Some.ensures))

pub returns-else-from-position-clause-low : goal.returns-else-from-position-clause-low
returns-else-from-position-clause-low g c =
    let a = c.args in
    let end : c.from.result ≡ sequence_length a.genome.now a.group.seq = c.from.ensures ∙ c.unwrap_or-end.ensures ∙ ap (λ o. unwrap_or o 0) c.length_u32.ensures.value in
    let last : c.min-last.result ≡ min (sequence_length a.genome.now a.group.seq) a.position = c.min-last.ensures ∙ ap (λ n. min n a.position) end in
    reaches-past a.self.now.options a.genome.now a.track.now.width a.track.now.records a.self.now.entries c.requires.right c.requires.fit a.group.seq (is_minus a.group.side)
    a.position c.min-last.result last (c.in-Some.start, c.in-Some.stop) c.in-Some.ensures.found (omega (arith, c.if-from-position.false, c.from-in-Some.ensures))

pub returns-in-None-clause-low : goal.returns-in-None-clause-low
returns-in-None-clause-low g c =
    let a = c.args in
    let end : c.from.result ≡ sequence_length a.genome.now a.group.seq = c.from.ensures ∙ c.unwrap_or-end.ensures ∙ ap (λ o. unwrap_or o 0) c.length_u32.ensures.value in
    let last : c.min-last.result ≡ min (sequence_length a.genome.now a.group.seq) a.position = c.min-last.ensures ∙ ap (λ n. min n a.position) end in
    reaches-none a.self.now.options a.genome.now a.track.now.width a.track.now.records a.self.now.entries c.requires.right c.requires.fit a.group.seq (is_minus a.group.side)
    a.position c.min-last.result last c.in-None.ensures.found
