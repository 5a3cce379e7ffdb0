-- The invariant of a session.
use Rattle.std.specs.Prelude.{◌≡◌, ◌≤◌, ℕ, false, List, [], Option, None, All, IsTrue, IsSome, IfSome, length}
use Rattle.std.specs.List.{AllByRecursion}
use Rattle.iv_lines.specs.Genome.{Sequences}
use Rattle.iv_lines.specs.Read.{Fits}
use Rattle.iv_track.specs.Tracked.{Tracked}
use Rattle.iv_view.specs.KeptStates.{state_key_of}
use Rattle.iv_view.specs.Views.{needs_second}
use Rattle.iv_view.specs.declared.view.View.{View}
use Rattle.iv_workspace.specs.OpenViews.{Shown}
use Rattle.iv_workspace.specs.States.{State}

-- the invariant of each track of a session: the width is one of a BED file, and the records fit the genome and are not
-- above the limit
pub record IsTrackOn (genome : Sequences) (track : Tracked) : Type 0 where
  pub low : 3 ≤ track.width
  pub high : track.width ≤ 6
  pub fit : All (Fits genome track.width) track.records
  pub few : length track.records ≤ track.limit

-- if a view needs a second file, there is one
abbrev pub IsServed : Option Tracked → View → Type 0
IsServed second view = IsTrue (needs_second view) → IsSome second

-- if some view needs a second file, there is one
abbrev pub AreServed : Option Tracked → List (List ℕ × Shown) → Type 0
AreServed second views = AllByRecursion (λ v. IsServed second v.1.view) views

-- a written view isn't stale
abbrev pub IsWrittenFresh : Shown → Type 0
IsWrittenFresh v = state_key_of v.view ≡ None → v.stale ≡ false

-- no such view is stale
abbrev pub AreWrittenFresh : List (List ℕ × Shown) → Type 0
AreWrittenFresh views = AllByRecursion (λ v. IsWrittenFresh v.1) views

-- the invariant of a session
pub record IsSession (genome : Sequences) (track : Tracked) (second : Option Tracked) (views : List (List ℕ × Shown)) : Type 0 where
  pub track_is : IsTrackOn genome track
  pub second_is : IfSome second (IsTrackOn genome)
  pub served : AreServed second views
  pub fresh : AreWrittenFresh views

-- a session of this track and these views, and of nothing else
abbrev pub over : Tracked → List (List ℕ × Shown) → State
over track views = record { genome = []; track = track; second = None; bases = None; views = views }
