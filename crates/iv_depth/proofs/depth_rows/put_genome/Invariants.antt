use Rattle.std.proofs.Common.{◌+◌, ◌≤◌, length}
use Rattle.iv_bytes.proofs.PutLemmas.{Underway}
use Rattle.iv_depth.specs.Inside.Texts.{text_by}
use Rattle.iv_depth.specs.Inside.Walks.{AreAhead, depth_by}
use Rattle.iv_depth.proofs.Genomes.{texts_from}
use Rattle.iv_depth.proofs.depth_rows.put_genome.Given as goal

-- the rows of the sequences from this rank on remain to be written
abbrev pub invariant-loop-seq : goal.invariant-loop-seq
invariant-loop-seq g l = record {
  put : Underway (g.S.Sink.state l.fn.sink) (g.S.Sink.state l.sink) (texts_from l.output l.genome (depth_by l.changes) l.seq) (text_by l.output l.genome (depth_by l.changes));
  ahead : AreAhead l.genome (depth_by l.changes) l.seq 0 0 l.changes_left;
  no_less : l.fn.meter ≤ l.meter;
  at_most : l.meter + length l.changes_left ≤ l.fn.meter + (2 + length l.changes);
}
