use Rattle.std.proofs.Common.{arith, ◌+◌, ap, ◌∙◌, take, set}
use Rattle.iv_fasta.proofs.OppositeLemmas.{opposite-more}
use Rattle.iv_fasta.proofs.rows.write_opposite.Goals as goal

pub loop-at-preserved : goal.loop-at-preserved
loop-at-preserved c =
    ap (λ b. take (c.loop-at.at + 1) (set c.loop-at.chunk c.loop-at.at b)) c.complement.ensures
    ∙ opposite-more c.loop-at.chunk c.args.bases.now c.loop-at.at c.loop-at-test.true (omega arith) c.loop-at.invariant
