use Rattle.std.proofs.Common.{◌≡◌, ◌∙◌, ap, arith, length, not, List}
use Rattle.std.proofs.lemmas.List.{length-map}
use Rattle.iv_lines.specs.Genome.{seq_count}
use Rattle.iv_lines.specs.declared.interval.Interval.{Interval}
use Rattle.iv_blocks.specs.Inside.BlockCursor.{interval_of, texts}
use Rattle.iv_blocks.specs.declared.options.BlockOptions.{BlockOptions}
use Rattle.iv_blocks.proofs.ComplementLemmas.{gaps-are}
use Rattle.iv_blocks.proofs.MergeLemmas.{count-is}
use Rattle.iv_blocks.proofs.blocks.Blocks.print_complement.Goals as goal

pub returns-clause-text : goal.returns-clause-text
returns-clause-text g c =
    let a = c.args in
    let text = ap (texts (not a.limited) a.genome.now 0 (seq_count a.genome.now)) c.of-ahead.ensures.all
    ∙ gaps-are a.self.now.options a.genome.now a.track.now.width a.track.now.records a.self.now.entries c.requires.right c.requires.fit
    (ap (λ (o : BlockOptions). o.distance) c.requires.joined) (ap (λ (o : BlockOptions). o.stranded) c.requires.joined) a.limited in
    rw text at c.put_gaps.ensures.text

pub returns-clause-steps : goal.returns-clause-steps
returns-clause-steps g c =
    let a = c.args in
    let long : length c.of-ahead.result ≡ length a.self.now.entries = ap (λ (l : List Interval). length l) c.of-ahead.ensures.all ∙ length-map a.self.now.entries interval_of in
    let count = count-is a.self.now.options a.genome.now a.track.now.width a.track.now.records a.self.now.entries c.requires.right c.requires.fit in
    record {
      no_less = omega (arith, c.of-ahead.ensures.steps, c.put_gaps.ensures.steps);
      at_most = omega (arith, c.of-ahead.ensures.steps, c.put_gaps.ensures.steps, long, count);
    }
