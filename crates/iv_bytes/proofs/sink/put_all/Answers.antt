use Rattle.iv_bytes.proofs.PutLemmas.{Underway-stops, Underway-pushed, Puts-err}
use Rattle.iv_bytes.proofs.sink.put_all.Goals as goal

pub returns-in_err-n : goal.returns-in_err-n
returns-in_err-n g c = Puts-err _ _ c.from_residual.result _ c.from_residual.ensures.0
    (Underway-stops _ _ _ _ _ c.loop-rest.invariant c.in_err-n.ensures.err)

pub loop-rest-preserved : goal.loop-rest-preserved
loop-rest-preserved g c = Underway-pushed _ _ _ c.in_ok-n.n c.loop-rest.rest.now _ c.loop-rest.invariant c.in_ok-n.ensures.ok
