use Rattle.std.proofs.Common.{◌≡◌, ℕ, pos}
use Rattle.iv_bytes.proofs.PutLemmas.{Underway}
use Rattle.iv_track.specs.Inside.Steps.{TakesForEach}
use Rattle.iv_depth.specs.DepthRows.{rows_between}
use Rattle.iv_depth.proofs.depth_rows.put_sequence.Given as goal

-- the rows from `start` on remain to be written, and the changes that are left are those of the depth from there on
abbrev pub invariant-loop-stop : goal.invariant-loop-stop
invariant-loop-stop g l = record {
  put : (f : ℕ → ℕ → ℕ) → g.C.DepthChanges.are_of l.fn.changes l.genome f l.seq 0 0
      → Underway (g.S.Sink.state l.fn.sink) (g.S.Sink.state l.sink) (rows_between l.output l.name (f l.seq) l.start l.length) (rows_between l.output l.name (f l.seq) 0 l.length);
  at : (f : ℕ → ℕ → ℕ) → g.C.DepthChanges.are_of l.fn.changes l.genome f l.seq 0 0
      → (d : ℕ) × (l.depth ≡ pos d) × g.C.DepthChanges.are_of l.changes l.genome f l.seq l.start d;
  steps : TakesForEach (g.C.DepthChanges.reading l.fn.meter) (g.C.DepthChanges.reading l.meter) (g.C.DepthChanges.left l.fn.changes) (g.C.DepthChanges.left l.changes);
}

abbrev pub decreases-loop-stop : goal.decreases-loop-stop
decreases-loop-stop g l = g.C.DepthChanges.left l.changes
