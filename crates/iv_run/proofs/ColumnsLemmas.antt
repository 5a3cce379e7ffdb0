-- Views whose rows depend on nothing of a record except its interval.
use Rattle.std.proofs.Common.{◌≡◌, ℕ, Bool, true, not, ◌&&◌, List, Ok, Err, if◌then◌else◌, refl, sym, ◌∙◌}
use Rattle.std.specs.Prelude.{nat_lt}
use Rattle.iv_lines.specs.declared.fault.Fault.TheVariants as refused
use Rattle.iv_view.specs.NarrowedViews.{as_merge, narrowed, has_columns}
use Rattle.iv_view.specs.Arguments.{read_arguments}
use Rattle.iv_view.proofs.NarrowingLemmas.{view-narrowed}
use Rattle.iv_view.specs.declared.view.View.TheVariants as view
use Rattle.iv_view.specs.declared.view.KeptView.{KeptView}
use Rattle.iv_view.specs.declared.view.KeptView.TheVariants as kept
use Rattle.iv_run.specs.Columns.{AskForIntervals, IsOfIntervals}
use Rattle.iv_run.specs.Inside.Intervals.{NeedsIntervalsAlone}
use Rattle.iv_run.proofs.IntervalsAlone.{complement-bare, genomecov-bare, merge-bare}

-- nothing except the intervals of records counts
pub alone : (asked : KeptView) → IsOfIntervals asked → NeedsIntervalsAlone asked
alone (kept.Merge o) plain = λ g records. merge-bare o.distance o g records plain
alone (kept.Cluster distance) is = absurd is
alone (kept.Complement limited) is = complement-bare limited
alone (kept.Genomecov shown) is = genomecov-bare shown

-- the view is the same on fewer columns and without files
narrowed-same : (width : ℕ) (b c : Bool) (asked : KeptView) → IsOfIntervals asked → narrowed width b c (view.Kept asked) ≡ Ok (view.Kept asked)
narrowed-same width b c (kept.Merge o) plain = λ i. as_merge (if not (has_columns width (plain.nothing i)) then Err refused.Column else if plain.together i && nat_lt width 6 then Err refused.NoStrand else Ok o)
narrowed-same width b c (kept.Cluster distance) is = absurd is
narrowed-same width b c (kept.Complement limited) is = refl
narrowed-same width b c (kept.Genomecov shown) is = refl

-- it is asked for on fewer columns and without files if it is on six and beside both
pub asks : (arguments : List (List ℕ)) (asked : KeptView) → read_arguments 6 true true arguments ≡ Ok (view.Kept asked) → IsOfIntervals asked → AskForIntervals arguments
asks arguments asked is of = record {
  asked = asked;
  is_of = of;
  reads = λ width b c. sym (view-narrowed width b c arguments (view.Kept asked) is) ∙ narrowed-same width b c asked of;
}
