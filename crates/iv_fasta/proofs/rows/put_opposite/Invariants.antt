use Rattle.std.proofs.Common.{length}
use Rattle.iv_bytes.proofs.PutLemmas.{Underway}
use Rattle.iv_fasta.specs.Inside.FastaRows.{opposite}
use Rattle.iv_fasta.proofs.rows.put_opposite.Given as goal

abbrev pub invariant-loop-rest : goal.invariant-loop-rest
invariant-loop-rest g l = Underway (g.S.Sink.state l.fn.sink) (g.S.Sink.state l.sink) (opposite l.rest) (opposite l.bases)

abbrev pub decreases-loop-rest : goal.decreases-loop-rest
decreases-loop-rest g l = length l.rest
