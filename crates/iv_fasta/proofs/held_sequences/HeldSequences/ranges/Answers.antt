use Rattle.std.proofs.Common.{arith, length, ◌∙◌}
use Rattle.std.proofs.lemmas.List.{take_all}
use Rattle.std.proofs.lemmas.List.Elements.{All-push}
use Rattle.std.specs.Option.{option_map}
use Rattle.iv_fasta.specs.FastaReading.{Wanted, only, held_by_rank}
use Rattle.iv_fasta.specs.Inside.Drafts.{cut}
use Rattle.iv_fasta.specs.Inside.BaseRanges.{IsPlacedWithin}
use Rattle.iv_fasta.proofs.BaseRangeLemmas.{placed-more}
use Rattle.iv_fasta.proofs.SummaryLemmas.{length-ranks}
use Rattle.iv_fasta.proofs.held_sequences.HeldSequences.ranges.Goals as goal

pub loop-seq-preserved : goal.loop-seq-preserved
loop-seq-preserved g c =
    let self = c.args.self.now in
    let wanted : Wanted = option_map (λ ranks. ranks.items) c.args.wanted.now in
    let found = cut self.headers self.bases.items self.count in
    record {
      value = placed-more (only wanted (held_by_rank c.args.genome.now found)) c.loop-seq.ranges.items c.push.new.self.items self.bases.items c.loop-seq.seq c.wanted_range_at.result
          (omega (arith, c.loop-seq-test.true, length-ranks wanted c.args.genome.now found)) c.loop-seq.invariant.value c.wanted_range_at.ensures.value c.in_ok-push.ensures.items;
      within = rw c.in_ok-push.ensures.items (All-push (IsPlacedWithin (length self.bases.items)) c.loop-seq.ranges.items c.wanted_range_at.result c.loop-seq.invariant.within c.wanted_range_at.ensures.within);
    }

pub returns-clause-value : goal.returns-clause-value
returns-clause-value g c =
    let self = c.args.self.now in
    let wanted : Wanted = option_map (λ ranks. ranks.items) c.args.wanted.now in
    let found = cut self.headers self.bases.items self.count in
    c.loop-seq.invariant.value ∙ take_all c.loop-seq.seq (only wanted (held_by_rank c.args.genome.now found)) (omega (arith, c.loop-seq-test.false, length-ranks wanted c.args.genome.now found))
