use Rattle.std.proofs.Common.{ℕ, [], ◌∙◌, ap, arith, length, get_or}
use Rattle.iv_bytes.proofs.PutLemmas.{laid-more, laid-length}
use Rattle.iv_bytes.proofs.sink.lay.Goals as goal

pub loop-piece-preserved : goal.loop-piece-preserved
loop-piece-preserved c =
    let i = c.loop-piece.invariant in
    let n : ℕ = length (get_or c.args.pieces.now c.loop-piece.piece-index (record { ref_ptr = (0, 0); now = [] })).now in
    record {
      all = laid-more (λ piece. piece.now) c.args.pieces.now c.loop-piece.piece-index _ c.loop-piece.row c.copy_from_slice.new.self c.loop-piece.end _
          i.all c.loop-piece-test.true (omega arith) c.copy_from_slice.ensures.after;
      few = omega arith;
      room = laid-length c.loop-piece.row c.copy_from_slice.new.self c.loop-piece.end n (omega arith) (ap length c.copy_from_slice.ensures.after) ∙ i.room;
    }
