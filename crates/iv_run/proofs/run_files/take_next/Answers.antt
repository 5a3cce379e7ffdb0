use Rattle.std.proofs.lemmas.Result.{err_from_is_err_and}
use Rattle.iv_run.proofs.PieceLemmas.{says-fault, says-more, says-still}
use Rattle.iv_run.proofs.run_files.take_next.Goals as goal

pub returns-in_err-draft : goal.returns-in_err-draft
returns-in_err-draft g c = λ front says.
    let p = err_from_is_err_and c.from_residual.result c.from_residual.ensures.1 in
    rw (p.1, p.2) (says-still c.args.columns c.args.genome.now c.args.limit front c.args.piece.now _ (rw c.in_err-draft.was at says))

pub returns-in_err-take_piece : goal.returns-in_err-take_piece
returns-in_err-take_piece g c = λ front says.
    let p = err_from_is_err_and c.from_residual-in_err-take_piece.result c.from_residual-in_err-take_piece.ensures.1 in
    rw (p.1, p.2) (says-fault c.args.columns c.args.genome.now c.args.limit front c.args.piece.now _ _ (rw c.in_ok-draft.was at says) c.in_err-take_piece.ensures.err)

pub returns : goal.returns
returns g c = λ front says.
    says-more c.args.columns c.args.genome.now c.args.limit front c.args.piece.now _ c.take_piece.new.self (rw c.in_ok-draft.was at says)
    c.in_ok-take_piece.ensures.sound c.in_ok-take_piece.ensures.few c.in_ok-take_piece.ensures.ok
