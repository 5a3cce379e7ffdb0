use Rattle.std.proofs.Common.{sym, ap, ◌∙◌, arith, Result, Err}
use Rattle.iv_lines.specs.declared.fault.LoadFault.{LoadFault}
use Rattle.iv_fasta.specs.Fasta.{Bases}
use Rattle.iv_fasta.specs.Inside.Drafts.{cut}
use Rattle.iv_fasta.proofs.CutLemmas.{length-cut}
use Rattle.iv_fasta.proofs.LengthLemmas.{lengths-wrong, lengths-next, lengths-end, none-past}
use Rattle.iv_fasta.proofs.held_sequences.HeldSequences.check_lengths.Goals as goal

pub returns-then-differs-clause-err : goal.returns-then-differs-clause-err
returns-then-differs-clause-err g c = λ wanted.
    let self = c.args.self.now in
    lengths-wrong c.args.genome.now wanted (cut self.headers self.bases.items self.count) c.loop-index.index _ c.loop-index.invariant c.in-Some.ensures.value (sym c.differs.ensures ∙ c.if-differs.true)
    ∙ ap {B = Result Bases LoadFault} (λ (f : LoadFault). Err f) (sym c.at.ensures)

pub loop-index-preserved : goal.loop-index-preserved
loop-index-preserved g c =
    let self = c.args.self.now in
    lengths-next c.args.genome.now (cut self.headers self.bases.items self.count) c.loop-index.index _ c.loop-index.invariant c.in-Some.ensures.value (sym c.differs.ensures ∙ c.if-differs.false)

pub returns-after-loop-index-clause-ok : goal.returns-after-loop-index-clause-ok
returns-after-loop-index-clause-ok g c =
    let self = c.args.self.now in
    lengths-end c.args.genome.now (cut self.headers self.bases.items self.count) c.loop-index.index (omega (arith, length-cut self.headers self.bases.items self.count)) c.loop-index.invariant

pub returns-in_default-clause-ok : goal.returns-in_default-clause-ok
returns-in_default-clause-ok g c =
    let self = c.args.self.now in
    lengths-end c.args.genome.now (cut self.headers self.bases.items self.count) c.loop-index.index (none-past (cut self.headers self.bases.items self.count) c.loop-index.index (sym c.in_default.ensures.value)) c.loop-index.invariant
