-- Which columns of its records a run needs.
use Rattle.std.specs.Prelude.{◌≡◌, ℕ, ⊤, Bool, List, Ok}
use Rattle.iv_blocks.specs.IntervalOptions.{IsByIntervals}
use Rattle.iv_places.specs.declared.places.HeldColumns.{HeldColumns}
use Rattle.iv_places.specs.declared.places.HeldColumns.TheVariants as held
use Rattle.iv_view.specs.Arguments.{read_arguments}
use Rattle.iv_view.specs.declared.view.KeptView.{KeptView}
use Rattle.iv_view.specs.declared.view.KeptView.TheVariants as kept
use Rattle.iv_view.specs.declared.view.View.TheVariants as view

-- the rows of the view depend on nothing of a record except its interval
abbrev pub IsOfIntervals : KeptView → Type 0
IsOfIntervals (kept.Merge options) = IsByIntervals options.distance options
IsOfIntervals (kept.Cluster distance) = ⊥
IsOfIntervals other = ⊤

-- these arguments ask for such a view, at each width and beside any files
pub record AskForIntervals (arguments : List (List ℕ)) : Type 0 where
  pub asked : KeptView
  pub is_of : IsOfIntervals asked
  pub reads : (width : ℕ) (has_second has_bases : Bool) → read_arguments width has_second has_bases arguments ≡ Ok (view.Kept asked)

-- these columns of records are enough for the view that arguments ask for
abbrev pub AreEnough : HeldColumns → List (List ℕ) → Type 0
AreEnough held.All arguments = ⊤
AreEnough held.Interval arguments = AskForIntervals arguments
