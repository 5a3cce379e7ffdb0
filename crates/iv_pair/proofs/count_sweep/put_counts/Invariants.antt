use Rattle.std.proofs.Common.{◌≤◌, All, List, count_by, length}
use Rattle.std.specs.List.{flat_map}
use Rattle.iv_bytes.proofs.PutLemmas.{Underway}
use Rattle.iv_lines.specs.Ordered.{AreInOrder}
use Rattle.iv_lines.specs.RecordValue.{RecordValue}
use Rattle.iv_pair.specs.CoverAlone.{GiveRowsAlike}
use Rattle.iv_pair.specs.PairRows.{pair_rows, pair_text}
use Rattle.iv_pair.specs.declared.intersect.IntersectOutput.TheVariants.{Count}
use Rattle.iv_pair.specs.declared.pair_rows.PairOutput.TheVariants.{Intersect}
use Rattle.iv_pair.specs.Inside.Counts.{AreStartsOf, begins_before, ends_by}
use Rattle.iv_pair.proofs.count_sweep.put_counts.Given as goal

-- the rows of the records that are left remain to be written, and each cursor is no further than any of them has it
abbrev pub invariant-loop-feature : goal.invariant-loop-feature
invariant-loop-feature g l =
    let left = g.W.RecordWalk.left l.first in record {
      starts_are : AreStartsOf l.places l.second;
      order : AreInOrder left;
      begun : All (λ y. l.begun ≤ count_by (begins_before y.seq y.start) l.second) left;
      ended : All (λ y. l.ended ≤ count_by (ends_by y.seq y.start) l.second) left;
      put : (other : List RecordValue) → GiveRowsAlike (Intersect Count) l.second other → Underway (g.S.Sink.state l.fn.sink) (g.S.Sink.state l.sink)
          (flat_map (λ a. pair_rows (Intersect Count) l.genome a other) left)
          (pair_text (Intersect Count) l.genome (g.W.RecordWalk.left l.fn.first) other);
    }

abbrev pub decreases-loop-feature : goal.decreases-loop-feature
decreases-loop-feature g l = length (g.W.RecordWalk.left l.first)
