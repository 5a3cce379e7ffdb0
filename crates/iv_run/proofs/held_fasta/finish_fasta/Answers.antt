use Rattle.std.proofs.lemmas.Result.{err_from_is_err_and}
use Rattle.iv_run.proofs.FastaPieceLemmas.{fasta-damaged, fasta-end_fault, fasta-file}
use Rattle.iv_run.proofs.held_fasta.finish_fasta.Goals as goal

pub returns-in_err-reader : goal.returns-in_err-reader
returns-in_err-reader g c = λ wanted text known.
    let p = err_from_is_err_and c.from_residual.result c.from_residual.ensures.1 in
    rw (p.1, p.2) (fasta-damaged wanted c.args.genome.now text c.lemma_of_names.ensures _ (rw c.in_err-reader.was at known))

pub returns-in_err-fasta : goal.returns-in_err-fasta
returns-in_err-fasta g c = λ wanted text known.
    let p = err_from_is_err_and c.from_residual-in_err-fasta.result c.from_residual-in_err-fasta.ensures.1 in
    rw (p.1, p.2) (fasta-end_fault wanted c.args.genome.now text c.lemma_of_names.ensures _ _ (rw c.in_ok-reader.was at known) c.in_err-fasta.ensures.err)

pub returns : goal.returns
returns g c = λ wanted text known.
    fasta-file wanted c.args.genome.now text c.lemma_of_names.ensures _ _ (rw c.in_ok-reader.was at known) c.in_ok-fasta.ensures.ok
