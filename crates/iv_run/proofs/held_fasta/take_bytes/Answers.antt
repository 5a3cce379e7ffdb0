use Rattle.std.proofs.lemmas.Result.{err_from_is_err_and}
use Rattle.iv_run.proofs.FastaPieceLemmas.{fasta-fault, fasta-more, fasta-still}
use Rattle.iv_run.proofs.held_fasta.take_bytes.Goals as goal

pub returns-in_err-reader : goal.returns-in_err-reader
returns-in_err-reader g c = λ wanted front known.
    let p = err_from_is_err_and c.from_residual.result c.from_residual.ensures.1 in
    rw (p.1, p.2) (fasta-still wanted c.args.genome.now front c.args.piece.now _ (rw c.in_err-reader.was at known))

pub returns-in_err-take_piece : goal.returns-in_err-take_piece
returns-in_err-take_piece g c = λ wanted front known.
    let p = err_from_is_err_and c.from_residual-in_err-take_piece.result c.from_residual-in_err-take_piece.ensures.1 in
    rw (p.1, p.2) (fasta-fault wanted c.args.genome.now front c.args.piece.now _ _ (rw c.in_ok-reader.was at known) c.in_err-take_piece.ensures.err)

pub returns : goal.returns
returns g c = λ wanted front known.
    fasta-more wanted c.args.genome.now front c.args.piece.now _ c.take_piece.new.self (rw c.in_ok-reader.was at known) c.in_ok-take_piece.ensures.few c.in_ok-take_piece.ensures.ok
