use Rattle.std.proofs.Common.{sym, ◌∙◌, arith}
use Rattle.iv_fasta.proofs.BlockLemmas.{base-more}
use Rattle.iv_fasta.proofs.base_counts.count_slowly.Goals as goal

pub loop-count-preserved : goal.loop-count-preserved
loop-count-preserved c = record {
  bases = base-more c.args.text.now c.loop-count.count c.loop-count.invariant.bases (sym c.is_bad.ensures ∙ c.if-not-is_bad.true);
  within = omega arith;
}
