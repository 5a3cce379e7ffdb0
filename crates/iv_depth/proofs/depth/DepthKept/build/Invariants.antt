use Rattle.std.proofs.Common.{◌≡◌, filter}
use Rattle.iv_places.proofs.SequenceLemmas.{is_from}
use Rattle.iv_depth.specs.Inside.Changes.{AreChangesBefore}
use Rattle.iv_depth.proofs.depth.DepthKept.build.Given as goal

-- the changes on the sequences before this rank are built, and the records of the others are left
abbrev pub invariant-loop-seq : goal.invariant-loop-seq
invariant-loop-seq g l = record {
  left_is : l.sequences.left ≡ filter (is_from l.seq) l.track.records;
  built : AreChangesBefore l.seq l.track.records l.built;
}
