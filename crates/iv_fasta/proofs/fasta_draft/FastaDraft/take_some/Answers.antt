use Rattle.std.proofs.Common.{◌++◌, Bool, ap, sym, ◌∙◌, drop}
use Rattle.iv_lines.specs.Genome.{Sequences}
use Rattle.iv_fasta.specs.FastaReading.{Progress, said}
use Rattle.iv_fasta.specs.Inside.Drafts.{Reads, Refuses}
use Rattle.iv_fasta.proofs.SaidLemmas.{feed-reads, ok-at, err-at, err-or-at}
use Rattle.iv_fasta.proofs.fasta_draft.FastaDraft.take_some.Goals as goal

pub returns-then-first-eq10-clause-ok : goal.returns-then-first-eq10-clause-ok
returns-then-first-eq10-clause-ok g c = λ more last.
    let text = c.args.text.now in
    feed-reads c.args.genome.now c.args.self.now text c.args.is_last c.requires.some c.if-first-eq10.true more last
    ∙ ap (λ (q : Progress). said c.args.genome.now q (drop 1 text ++ more)) (sym c.end_line.ensures)

pub returns-then-first-eq13-clause-ok : goal.returns-then-first-eq13-clause-ok
returns-then-first-eq13-clause-ok g c =
    ok-at c.take_return.result (λ (genome : Sequences) size. Reads genome c.args.self.now c.take_return.new.self c.args.text.now size c.args.is_last) c.args.genome.now c.take_return.ensures.ok

pub returns-then-first-eq13-clause-err : goal.returns-then-first-eq13-clause-err
returns-then-first-eq13-clause-err g c =
    err-at c.take_return.result (λ (genome : Sequences) why. Refuses genome c.args.self.now c.args.text.now why c.args.is_last) c.args.genome.now c.take_return.ensures.err

pub returns-clause-ok : goal.returns-clause-ok
returns-clause-ok g c =
    ok-at c.take_bases.result (λ (is_last : Bool) size. Reads c.args.genome.now c.args.self.now c.take_bases.new.self c.args.text.now size is_last) c.args.is_last
    (ok-at c.take_bases.result (λ (genome : Sequences) size. (is_last : Bool) → Reads genome c.args.self.now c.take_bases.new.self c.args.text.now size is_last) c.args.genome.now c.take_bases.ensures.ok)

pub returns-clause-err : goal.returns-clause-err
returns-clause-err g c =
    err-or-at c.take_bases.result (λ (is_last : Bool) why. Refuses c.args.genome.now c.args.self.now c.args.text.now why is_last) c.args.is_last
    (err-or-at c.take_bases.result (λ (genome : Sequences) why. (is_last : Bool) → Refuses genome c.args.self.now c.args.text.now why is_last) c.args.genome.now c.take_bases.ensures.err)
