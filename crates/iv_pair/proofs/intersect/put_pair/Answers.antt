use Rattle.iv_bytes.proofs.PutLemmas.{Puts-back, Puts-err, FailsIn-front}
use Rattle.iv_pair.proofs.intersect.put_pair.Goals as goal

pub returns-in_err-put_record : goal.returns-in_err-put_record
returns-in_err-put_record g c =
    Puts-err _ _ c.from_residual.result _ c.from_residual.ensures.0 (FailsIn-front _ _ _ _ c.in_err-put_record.ensures)

pub returns : goal.returns
returns g c = Puts-back _ _ _ _ _ _ c.in_ok-put_record.ensures c.put_after.ensures
