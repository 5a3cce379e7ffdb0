use Rattle.iv_bytes.proofs.PutLemmas.{Puts-back, Puts-err, FailsIn-front}
use Rattle.iv_lines.proofs.row_buffer.RowBuffer.put_after.Goals as goal

pub returns-in_err-put_all : goal.returns-in_err-put_all
returns-in_err-put_all g c =
    Puts-err _ _ c.from_residual.result _ c.from_residual.ensures.0 (FailsIn-front _ _ _ _ c.in_err-put_all.ensures)

pub returns-then-front-self : goal.returns-then-front-self
returns-then-front-self g c =
    Puts-back _ _ _ _ _ _ c.in_ok-put_all.ensures (rw c.as_slice.ensures at c.put_all-then-front-self.ensures)
