use Rattle.std.proofs.Common.{◌++◌, Ok, Err, ap, sym, ◌∙◌, inl, inr, drop}
use Rattle.std.proofs.lemmas.Result.{err_from_is_err_and}
use Rattle.iv_fasta.specs.FastaReading.{Progress, said, with_header}
use Rattle.iv_fasta.proofs.SaidLemmas.{header-said, headed-is}
use Rattle.iv_fasta.proofs.fasta_draft.FastaDraft.take_header.Goals as goal

pub returns-in_err-push_header-clause-err : goal.returns-in_err-push_header-clause-err
returns-in_err-push_header-clause-err g c =
    let old = c.args.self.now in
    let genome = c.args.genome.now in
    let p = err_from_is_err_and c.from_residual.result c.from_residual.ensures.1 in
    rw (p.1, p.2) (elim c.in_err-push_header.ensures.err [
      | inl memory ↦ inl memory
      | inr refused ↦ inr (λ more last.
          header-said genome old (Err _) c.args.text.now c.in-Some.line.now more c.in-Some.next c.requires.closed c.requires.some c.requires.begins (c.in-Some.ensures.lines more last)
          (ap (with_header genome old.wanted old.number old.draft) (sym c.name_in.ensures) ∙ refused))
    ])

pub returns-clause-ok : goal.returns-clause-ok
returns-clause-ok g c = λ more last.
    let old = c.args.self.now in
    let genome = c.args.genome.now in
    let taken = c.push_header.new.self in
    let rest = c.in_ok-push_header.ensures.rest in
    header-said genome old (Ok taken.draft) c.args.text.now c.in-Some.line.now more c.in-Some.next c.requires.closed c.requires.some c.requires.begins (c.in-Some.ensures.lines more last)
    (ap (with_header genome old.wanted old.number old.draft) (sym c.name_in.ensures) ∙ c.in_ok-push_header.ensures.ok)
    ∙ ap (λ (q : Progress). said genome q (drop c.in-Some.next c.args.text.now ++ more)) (headed-is old taken c.end_line.new.self rest.0 c.push_header.ensures.wanted rest.1 c.end_line.ensures)
