use Rattle.std.proofs.Common.{◌≡◌, ◌≤◌, ◌++◌, take, drop, length}
use Rattle.std.specs.List.{flat_map}
use Rattle.iv_bytes.proofs.sink.lay.Given as goal

abbrev pub invariant-loop-piece : goal.invariant-loop-piece
invariant-loop-piece l = record {
  all : take l.end l.row ++ flat_map (λ piece. piece.now) (drop l.piece-index l.pieces) ≡ flat_map (λ piece. piece.now) l.fn.pieces;
  few : l.end ≤ 96;
  room : length l.row ≡ 96;
}
