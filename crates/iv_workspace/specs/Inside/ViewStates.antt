-- The states of open views, and their repairs.
use Rattle.std.specs.Prelude.{◌≡◌, ◌⊎◌, ℕ, zero, suc, Bool, true, false, List, [], ◌∷◌, Option, None, Some, IfSome, map}
use Rattle.std.specs.List.{AllByRecursion}
use Rattle.iv_lines.specs.Ordered.{added}
use Rattle.iv_lines.specs.RecordValue.{RecordValue}
use Rattle.iv_ledger.specs.Steps.{TakesUpTo}
use Rattle.iv_view.specs.KeptStates.{built_for, state_key_of, IsRight}
use Rattle.iv_view.specs.declared.kept_state.KeptState.{KeptState}
use Rattle.iv_view.specs.declared.kept_state.StateKey.{StateKey}
use Rattle.iv_view.specs.declared.view.View.{View}
use Rattle.iv_workspace.specs.OpenViews.{Shown, Stales, all_steps, view_steps}
use Rattle.iv_workspace.specs.declared.views.OpenView.{OpenView}
use Rattle.iv_workspace.specs.declared.views.states.Change.{Change}
use Rattle.iv_workspace.specs.declared.views.states.Change.TheVariants.{Added, Removed}

-- an open view as contracts see it
abbrev pub seen : {A : Type 0} → OpenView A → Shown
seen v = record { view = v.view; stale = v.stale }

-- open views as contracts see them
abbrev pub all_seen : {A : Type 0} → List (List ℕ × OpenView A) → List (List ℕ × Shown)
all_seen views = map {B = List ℕ × Shown} (λ v. (v.0, seen v.1)) views

-- what a state that is with a view is kept for, if there is one
abbrev pub kept_with : {A : Type 0} → View → Option (KeptState A) → Option StateKey
kept_with view None = None
kept_with view (Some k) = state_key_of view

-- what the state of an open view is kept for, if it has one
abbrev pub owned : {A : Type 0} → OpenView A → Option StateKey
owned v = kept_with v.view v.state

-- what the states of open views are kept for
abbrev pub all_owned : {A : Type 0} → List (List ℕ × OpenView A) → List (Option StateKey)
all_owned views = map {B = Option StateKey} (λ v. owned v.1) views

-- a state of this is among them
abbrev pub IsOwned : StateKey → List (Option StateKey) → Type 0
IsOwned what [] = ⊥
IsOwned what (o ∷ states) = (o ≡ Some what) ⊎ IsOwned what states

-- if something is kept of the view, then it is among them
abbrev pub IsKept : List (Option StateKey) → View → Type 0
IsKept states view = IfSome (state_key_of view) (λ what. IsOwned what states)

-- what is kept of the views that are current is among them
abbrev pub HaveStates : List (Option StateKey) → List (List ℕ × Shown) → Type 0
HaveStates states views = AllByRecursion (λ v. v.1.stale ≡ false → IsKept states v.1.view) views

-- no view that is current has this kept of it
abbrev pub NoneNeeds : StateKey → List (List ℕ × Shown) → Type 0
NoneNeeds what views = AllByRecursion (λ v. v.1.stale ≡ false → state_key_of v.1.view ≡ Some what → ⊥) views

-- the state of an open view, if it has one, is right, and is of what is kept of the view, which is current
abbrev pub IsOwnRight : {A : Type 0} → OpenView A → List (List ℕ) → List RecordValue → Type 0
IsOwnRight v names records = IfSome v.state (λ k. (v.stale ≡ false) × (state_key_of v.view ≡ Some (built_for k)) × IsRight k names records)

-- those of open views are
abbrev pub AreOwnRight : {A : Type 0} → List (List ℕ × OpenView A) → List (List ℕ) → List RecordValue → Type 0
AreOwnRight views names records = AllByRecursion (λ v. IsOwnRight v.1 names records) views

-- the states of open views are right, and each view that is current has the state that it needs, its own or that of another
abbrev pub AreRight : {A : Type 0} → List (List ℕ × OpenView A) → List (List ℕ) → List RecordValue → Type 0
AreRight views names records = AreOwnRight views names records × HaveStates (all_owned views) (all_seen views)

-- the records before and after: one of the two is the other with one more copy of r
abbrev pub IsChanged : Change → RecordValue → List RecordValue → List RecordValue → Type 0
IsChanged Added r before after = after ≡ added before r
IsChanged Removed r before after = before ≡ added after r

-- that one of the two that has the copy, by the records after the edit
abbrev pub with_edited : Change → List RecordValue → RecordValue → List RecordValue
with_edited Added records r = records
with_edited Removed records r = added records r

-- what is kept was right for the records before the edit
pub record WasRight {S : Type 0} (change : Change) (is_right : S → List RecordValue → Type 0) (state : S) (records : List RecordValue) (r : RecordValue) : Type 0 where
  pub before : List RecordValue
  pub right : is_right state before
  pub changed : IsChanged change r before records

-- an open view's own state was repaired: it is the same view, and stays stale if it was; if the state wasn't lost, nothing
-- else has changed; `with_r` are the records with r
pub record IsRepaired {A : Type 0} (names : List (List ℕ)) (records with_r : List RecordValue) (r : RecordValue) (kept : Bool) (old new : OpenView A) (before after : ℕ) : Type 0 where
  pub same : new.view ≡ old.view
  pub stays : old.stale ≡ true → new.stale ≡ true
  pub unless : kept ≡ true → (new.stale ≡ old.stale) × (owned new ≡ owned old)
  pub written : state_key_of old.view ≡ None → new.stale ≡ old.stale
  pub right : IsOwnRight new names records
  pub steps : TakesUpTo before after (view_steps (seen old) with_r r)

-- the own states of open views were repaired; if none was lost, the views are seen as before
pub record AreRepaired {A : Type 0} (names : List (List ℕ)) (records with_r : List RecordValue) (r : RecordValue) (kept : Bool) (old new : List (List ℕ × OpenView A)) (before after : ℕ) : Type 0 where
  pub unless : kept ≡ true → (all_seen new ≡ all_seen old) × (all_owned new ≡ all_owned old)
  pub stales : Stales (all_seen old) (all_seen new)
  pub right : AreOwnRight new names records
  pub steps : TakesUpTo before after (all_steps (all_seen old) with_r r)

-- the views whose state is lost, their own or that of another, were made stale
pub record AreMarked {A : Type 0} (old new : List (List ℕ × OpenView A)) : Type 0 where
  pub right : (names : List (List ℕ)) (records : List RecordValue) → AreOwnRight old names records → AreOwnRight new names records
  pub stales : Stales (all_seen old) (all_seen new)
  pub states : HaveStates (all_owned new) (all_seen new)

-- the state that a view needs and no view has: none if a view has it, or if nothing is kept of the view
abbrev pub IsMissing : {A : Type 0} → List (Option StateKey) → View → List (List ℕ) → List RecordValue → Option (KeptState A) → Type 0
IsMissing states view names records None = IsKept states view
IsMissing states view names records (Some k) = (state_key_of view ≡ Some (built_for k)) × IsRight k names records

-- the views, that at an index current
abbrev pub current_at : ℕ → List (List ℕ × Shown) → List (List ℕ × Shown)
current_at index [] = []
current_at zero (v ∷ views) = (v.0, record v.1 { stale = false }) ∷ views
current_at (suc index) (v ∷ views) = v ∷ current_at index views
