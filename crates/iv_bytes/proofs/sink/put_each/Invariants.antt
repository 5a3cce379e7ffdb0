use Rattle.std.proofs.Common.{drop}
use Rattle.std.specs.List.{flat_map}
use Rattle.iv_bytes.proofs.PutLemmas.{Underway}
use Rattle.iv_bytes.proofs.sink.put_each.Given as goal

abbrev pub invariant-loop-piece : goal.invariant-loop-piece
invariant-loop-piece g l = Underway (g.S.Sink.state l.fn.sink) (g.S.Sink.state l.sink)
    (flat_map (λ piece. piece.now) (drop l.piece-index l.pieces)) (flat_map (λ piece. piece.now) l.pieces)
