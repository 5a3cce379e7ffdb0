-- Where the records of a walk start and where they stop, sequence by sequence. This is the state of a sweep and of a build, as seen by
-- their proofs.
use Rattle.std.specs.Prelude.{◌≡◌, ℕ, nat_lt, List, map, filter}
use Rattle.iv_lines.specs.RecordValue.{RecordValue}
use Rattle.iv_lines.specs.CoveredPositions.{on}
use Rattle.iv_cover.specs.Blocks.{start_of, stop_of}
use Rattle.iv_depth.specs.Inside.Edges.{AreStopsOf}

-- the records that are left, and where those of one sequence start and stop
pub record Gathered : Type 0 where
  pub left : List RecordValue
  pub starts : List ℕ
  pub stops : List ℕ

-- the records on a sequence were taken, and where they start and stop is written, in their order
pub record WritesSequence (seq : ℕ) (old new : Gathered) : Type 0 where
  pub later : new.left ≡ filter (λ r. nat_lt seq r.seq) old.left
  pub starts : new.starts ≡ map start_of (on seq old.left)
  pub stops : new.stops ≡ map stop_of (on seq old.left)

-- the records on a sequence were taken: where they start, and where they stop, both from the least to the greatest
pub record TakesSequence (seq : ℕ) (old : List RecordValue) (new : Gathered) : Type 0 where
  pub later : new.left ≡ filter (λ r. nat_lt seq r.seq) old
  pub starts : new.starts ≡ map start_of (on seq old)
  pub stops : AreStopsOf (on seq old) new.stops
