use Rattle.std.proofs.Common.{arith}
use Rattle.iv_fasta.proofs.BlockLemmas.{bases-more}
use Rattle.iv_fasta.proofs.base_counts.count_bases.Goals as goal

pub returns-then-more-lt-BLOCK-clause-bases : goal.returns-then-more-lt-BLOCK-clause-bases
returns-then-more-lt-BLOCK-clause-bases c = bases-more c.args.text.now c.loop-count.count c.count_in_block-more.result c.loop-count.invariant.bases c.count_in_block-more.ensures.bases

pub loop-count-preserved : goal.loop-count-preserved
loop-count-preserved c = record {
  bases = λ k lt. bases-more c.args.text.now c.loop-count.count c.count_in_block-more.result c.loop-count.invariant.bases c.count_in_block-more.ensures.bases k (omega (arith, c.if-more-lt-BLOCK.false));
  within = omega (arith, c.loop-count-test.true, c.loop-count.invariant.within);
}

pub returns-clause-bases : goal.returns-clause-bases
returns-clause-bases c = bases-more c.args.text.now c.loop-count.count c.count_slowly.result c.loop-count.invariant.bases c.count_slowly.ensures.bases
