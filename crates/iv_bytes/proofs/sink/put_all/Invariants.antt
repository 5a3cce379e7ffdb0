use Rattle.std.proofs.Common.{length}
use Rattle.iv_bytes.proofs.PutLemmas.{Underway}
use Rattle.iv_bytes.proofs.sink.put_all.Given as goal

abbrev pub invariant-loop-rest : goal.invariant-loop-rest
invariant-loop-rest g l = Underway (g.S.Sink.state l.fn.sink) (g.S.Sink.state l.sink) l.rest l.bytes

abbrev pub decreases-loop-rest : goal.decreases-loop-rest
decreases-loop-rest g l = length l.rest
