use Rattle.std.proofs.Common.{◌≡◌, filter}
use Rattle.iv_bytes.proofs.PutLemmas.{Underway}
use Rattle.iv_cover.specs.Depth.{depth}
use Rattle.iv_places.proofs.SequenceLemmas.{is_from}
use Rattle.iv_depth.specs.DepthRows.{depth_text}
use Rattle.iv_depth.proofs.Genomes.{texts_from}
use Rattle.iv_depth.proofs.depth_sweep.DepthSweep.print.Given as goal

-- the rows of the sequences from this rank on remain to be written, and their records are left
abbrev pub invariant-loop-seq : goal.invariant-loop-seq
invariant-loop-seq g l = record {
  put : Underway (g.S.Sink.state l.fn.sink) (g.S.Sink.state l.sink) (texts_from l.output l.genome (depth l.fn.self) l.seq) (depth_text l.output l.genome l.fn.self);
  left_is : l.sequences.left ≡ filter (is_from l.seq) l.fn.self;
}
