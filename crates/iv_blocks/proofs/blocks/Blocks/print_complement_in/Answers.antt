use Rattle.std.proofs.Common.{◌≡◌, ◌∙◌, List, length, min, ap, subst, arith}
use Rattle.std.specs.Option.{unwrap_or}
use Rattle.iv_lines.specs.Genome.{sequence_length}
use Rattle.iv_lines.specs.Named.{names_of}
use Rattle.iv_cover.specs.Runs.{Run}
use Rattle.iv_blocks.specs.KeptBlocks.{AreBlocksOf}
use Rattle.iv_blocks.specs.declared.options.BlockOptions.{BlockOptions}
use Rattle.iv_blocks.proofs.GapRegionLemmas.{left-all, left-begin, past-some, past-none}
use Rattle.iv_blocks.proofs.blocks.Blocks.print_complement_in.Goals as goal

pub returns-in-Some : goal.returns-in-Some
returns-in-Some g c =
    let a = c.args in
    let right = subst (λ (o : BlockOptions). AreBlocksOf o (names_of a.genome.now) a.track.now.records a.self.now.entries) c.requires.joined c.requires.right in
    let end : c.from.result ≡ sequence_length a.genome.now a.region.seq = c.from.ensures ∙ c.unwrap_or-end.ensures ∙ ap (λ o. unwrap_or o 0) c.length_u32.ensures.value in
    let last : c.min-last.result ≡ min (sequence_length a.genome.now a.region.seq) a.region.start = c.min-last.ensures ∙ ap (λ n. min n a.region.start) end in
    let begin = left-begin a.genome.now a.track.now.width a.track.now.records a.self.now.entries right c.requires.fit a.region.seq a.limited a.region.start a.region.stop c.min-last.result (c.in-Some.field-0-0, c.in-Some.low) (omega (arith, last)) c.in-Some.ensures.found in
    record {
      text = rw begin c.print_gaps_from.ensures.text;
      steps = record {
        no_less = omega (arith, c.in-Some.ensures.steps, c.print_gaps_from.ensures.steps);
        at_most = omega (arith, c.in-Some.ensures.steps, c.print_gaps_from.ensures.steps, ap (λ (l : List Run). length l) begin);
      };
    }

pub returns-in-None : goal.returns-in-None
returns-in-None g c =
    let a = c.args in
    let right = subst (λ (o : BlockOptions). AreBlocksOf o (names_of a.genome.now) a.track.now.records a.self.now.entries) c.requires.joined c.requires.right in
    let all = left-all a.genome.now a.track.now.width a.track.now.records a.self.now.entries right c.requires.fit a.region.seq a.limited a.region.start a.region.stop in
    record {
      text = rw all c.print_gaps_from-in-None.ensures.text;
      steps = record {
        no_less = omega (arith, c.in-None.ensures.steps, c.print_gaps_from-in-None.ensures.steps);
        at_most = omega (arith, c.in-None.ensures.steps, c.print_gaps_from-in-None.ensures.steps, ap (λ (l : List Run). length l) all);
      };
    }

pub print_gaps_from-requires-clause-past : goal.print_gaps_from-requires-clause-past
print_gaps_from-requires-clause-past g c =
    let a = c.args in
    let right = subst (λ (o : BlockOptions). AreBlocksOf o (names_of a.genome.now) a.track.now.records a.self.now.entries) c.requires.joined c.requires.right in
    let end : c.from.result ≡ sequence_length a.genome.now a.region.seq = c.from.ensures ∙ c.unwrap_or-end.ensures ∙ ap (λ o. unwrap_or o 0) c.length_u32.ensures.value in
    let last : c.min-last.result ≡ min (sequence_length a.genome.now a.region.seq) a.region.start = c.min-last.ensures ∙ ap (λ n. min n a.region.start) end in
    past-some a.genome.now a.track.now.width a.track.now.records a.self.now.entries right c.requires.fit a.region.seq a.limited a.region.start a.region.stop c.min-last.result last (c.in-Some.field-0-0, c.in-Some.low) c.in-Some.ensures.found

pub print_gaps_from-requires-in-None-clause-past : goal.print_gaps_from-requires-in-None-clause-past
print_gaps_from-requires-in-None-clause-past g c =
    let a = c.args in
    let right = subst (λ (o : BlockOptions). AreBlocksOf o (names_of a.genome.now) a.track.now.records a.self.now.entries) c.requires.joined c.requires.right in
    let end : c.from.result ≡ sequence_length a.genome.now a.region.seq = c.from.ensures ∙ c.unwrap_or-end.ensures ∙ ap (λ o. unwrap_or o 0) c.length_u32.ensures.value in
    let last : c.min-last.result ≡ min (sequence_length a.genome.now a.region.seq) a.region.start = c.min-last.ensures ∙ ap (λ n. min n a.region.start) end in
    past-none a.genome.now a.track.now.width a.track.now.records a.self.now.entries right c.requires.fit a.region.seq a.limited a.region.start a.region.stop c.min-last.result last c.in-None.ensures.found
