use Rattle.std.proofs.Common.{[]}
use Rattle.iv_bytes.proofs.PutLemmas.{Takes-sent, FailsIn-back, FailsIn-sent, OnErr-all}
use Rattle.iv_bytes.proofs.sink.Buffered.flush.Goals as goal

pub returns-in_err-n-clause-err : goal.returns-in_err-n-clause-err
returns-in_err-n-clause-err g c = OnErr-all c.from_residual.result
    (FailsIn-back _ _ _ [] [] c.loop-self.invariant (FailsIn-sent _ _ _ c.loop-self.self.held c.loop-self.self.held c.in_err-n.ensures.err))

pub loop-self-preserved : goal.loop-self-preserved
loop-self-preserved g c = Takes-sent _ _ _ _ c.in_ok-n.n c.loop-self.self.held _ _ c.loop-self.invariant c.bytes-in-loop-self.ensures c.in_ok-n.ensures.ok c.skip.ensures
