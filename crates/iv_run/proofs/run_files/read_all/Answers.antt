use Rattle.iv_lines.proofs.PieceLemmas.{handed-on}
use Rattle.iv_run.proofs.ReadingLemmas.{StopsReading-piece}
use Rattle.iv_run.proofs.run_files.read_all.Goals as goal

pub returns-in_err-take_piece-clause-err : goal.returns-in_err-take_piece-clause-err
returns-in_err-take_piece-clause-err g c =
    handed-on c.from_residual-in_err-take_piece.result _ _ c.from_residual-in_err-take_piece.ensures.1 (StopsReading-piece _ _ _ _ _ _ c.in_ok-n.n _ c.pieces.invariant.0 c.in_ok-n.ensures.ok c.in_err-take_piece.ensures.err)
