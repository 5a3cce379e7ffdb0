use Rattle.std.proofs.Common.{◌++◌, ap, sym, ◌∙◌, inl, refl, drop, arith}
use Rattle.iv_fasta.specs.FastaReading.{Progress, said}
use Rattle.iv_fasta.proofs.SaidLemmas.{lines-alone, lines-last, line-refused, return-reads, return-plain}
use Rattle.iv_fasta.proofs.fasta_draft.FastaDraft.take_return.Goals as goal

pub returns-then-is_last-clause-err : goal.returns-then-is_last-clause-err
returns-then-is_last-clause-err g c = λ genome.
    let p = c.args.self.now in
    let text = c.args.text.now in
    line-refused genome p text 13 c.args.is_last c.refusal.result c.refusal.ensures (λ more last. lines-last text more c.if-text-eq1.true c.requires.begins (last c.if-is_last.true)) (λ _. return-plain) (inl refl)

pub returns-then-text-eq10-clause-ok : goal.returns-then-text-eq10-clause-ok
returns-then-text-eq10-clause-ok g c = λ genome more last.
    let p = c.args.self.now in
    let text = c.args.text.now in
    return-reads genome p text c.args.is_last (omega (arith, c.requires.some, c.if-text-eq1.false)) c.requires.begins c.if-text-eq10.true more last
    ∙ ap (λ (q : Progress). said genome q (drop 2 text ++ more)) (sym c.end_line.ensures)

pub returns-clause-err : goal.returns-clause-err
returns-clause-err g c = λ genome.
    let p = c.args.self.now in
    let text = c.args.text.now in
    line-refused genome p text 13 c.args.is_last c.refusal-2.result c.refusal-2.ensures
    (λ more last. lines-alone text more (omega (arith, c.requires.some, c.if-text-eq1.false)) c.requires.begins c.if-text-eq10.false) (λ _. return-plain) (inl refl)
