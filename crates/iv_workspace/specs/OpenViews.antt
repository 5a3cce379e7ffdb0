-- The open views as contracts see them, and what edits and prints leave of them.
use Rattle.std.specs.Prelude.{◌≡◌, ℕ, ◌+◌, Bool, true, false, if◌then◌else◌, List, [], ◌∷◌, map}
use Rattle.std.specs.List.{AllZip}
use Rattle.std.specs.Str.{bytes_eq}
use Rattle.iv_lines.specs.RecordValue.{RecordValue}
use Rattle.iv_view.specs.KeptStates.{repair_steps_of}
use Rattle.iv_view.specs.declared.view.View.{View}
use Rattle.iv_view.specs.declared.view.View.TheVariants as view
use Rattle.iv_view.specs.declared.written_view.WrittenView.{WrittenView}

-- an open view: which one it is, and whether it must be rebuilt before it is printed
pub record Shown : Type 0 where
  pub view : View
  pub stale : Bool

-- a view, current
abbrev pub current : Shown → Shown
current v = record v { stale = false }

-- all views, current
abbrev pub all_current : List (List ℕ × Shown) → List (List ℕ × Shown)
all_current views = map {B = List ℕ × Shown} (λ v. (v.0, current v.1)) views

-- the views, that of this name current
abbrev pub with_current : List (List ℕ × Shown) → List ℕ → List (List ℕ × Shown)
with_current [] name = []
with_current (v ∷ views) name = if bytes_eq name v.0 then (v.0, current v.1) ∷ views else v ∷ with_current views name

-- the views are the same, except that some kept views may have become stale
abbrev pub Stales : List (List ℕ × Shown) → List (List ℕ × Shown) → Type 0
Stales old new = AllZip (λ v w. (w.0 ≡ v.0) × (w.1.view ≡ v.1.view) × (v.1.stale ≡ true → w.1.stale ≡ true)
    × ((records : WrittenView) → v.1.view ≡ view.Written records → w.1.stale ≡ v.1.stale)) old new

-- the views are the same, except that some that were stale may have become current
abbrev pub Freshens : List (List ℕ × Shown) → List (List ℕ × Shown) → Type 0
Freshens old new = AllZip (λ v w. (w.0 ≡ v.0) × (w.1.view ≡ v.1.view) × (w.1.stale ≡ true → v.1.stale ≡ true)) old new

-- how many views are stale
abbrev pub stale_count : List (List ℕ × Shown) → ℕ
stale_count [] = 0
stale_count (v ∷ views) = (if v.1.stale then 1 else 0) + stale_count views

-- how many steps the repair of an open view takes at most, with the record among the records: none of a stale one, and none of
-- a written one
abbrev pub view_steps : Shown → List RecordValue → RecordValue → ℕ
view_steps v records r = if v.stale then 0 else repair_steps_of v.view records r

-- how many steps the repairs of all views take at most, with the record among the records
abbrev pub all_steps : List (List ℕ × Shown) → List RecordValue → RecordValue → ℕ
all_steps [] records r = 0
all_steps (v ∷ views) records r = view_steps v.1 records r + all_steps views records r
