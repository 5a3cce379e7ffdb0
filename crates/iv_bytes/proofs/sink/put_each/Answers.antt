use Rattle.iv_bytes.proofs.PutLemmas.{Underway-fails, Underway-more, Puts-err, flat_map-drop}
use Rattle.iv_bytes.proofs.sink.put_each.Goals as goal

pub returns-in_err-put_all : goal.returns-in_err-put_all
returns-in_err-put_all g c =
    let next = flat_map-drop (λ piece. piece.now) c.args.pieces.now c.loop-piece.piece-index _ c.loop-piece-test.true in
    Puts-err _ _ c.from_residual.result _ c.from_residual.ensures.0
    (Underway-fails _ _ _ _ _ _ (rw next at c.loop-piece.invariant) c.in_err-put_all.ensures)

pub loop-piece-preserved : goal.loop-piece-preserved
loop-piece-preserved g c =
    let next = flat_map-drop (λ piece. piece.now) c.args.pieces.now c.loop-piece.piece-index _ c.loop-piece-test.true in
    Underway-more _ _ _ _ _ _ (rw next at c.loop-piece.invariant) c.in_ok-put_all.ensures
