use Rattle.std.proofs.Common.{◌-◌, not}
use Rattle.iv_bytes.proofs.PutLemmas.{Underway}
use Rattle.iv_lines.specs.Genome.{seq_count}
use Rattle.iv_blocks.specs.Inside.BlockCursor.{texts, TakesForEach}
use Rattle.iv_blocks.proofs.complement.put_gaps.Given as goal

-- the rows of the sequences from this rank on remain to be written
abbrev pub invariant-loop-seq : goal.invariant-loop-seq
invariant-loop-seq g l = record {
  put : Underway (g.S.Sink.state l.fn.sink) (g.S.Sink.state l.sink)
      (texts (not l.limited) l.genome l.seq (seq_count l.genome - l.seq) (g.B.BlocksAhead.left l.blocks))
      (texts (not l.limited) l.genome 0 (seq_count l.genome) (g.B.BlocksAhead.left l.fn.blocks));
  steps : TakesForEach (g.B.BlocksAhead.steps l.fn.counter) (g.B.BlocksAhead.steps l.counter) (g.B.BlocksAhead.left l.fn.blocks) (g.B.BlocksAhead.left l.blocks);
}
