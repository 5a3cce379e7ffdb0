-- The names of views, the views that are open, and their texts.
use Rattle.std.specs.Prelude.{◌≡◌, ◌⊎◌, ℕ, ◌++◌, ◌&&◌, not, nat_le, if◌then◌else◌, Bool, false, List, [], ◌∷◌, Option, None, Some, Result, Ok, Err, IsOk, length, codes}
use Rattle.std.specs.List.{list_all, flat_map}
use Rattle.std.specs.Option.{is_some, unwrap_or}
use Rattle.std.specs.Map.{lookup}
use Rattle.std.specs.Str.{bytes_eq}
use Rattle.iv_lines.specs.Fault.{code_of}
use Rattle.iv_lines.specs.declared.fault.Fault.{Fault}
use Rattle.iv_lines.specs.declared.fault.Fault.TheVariants as fault
use Rattle.iv_track.specs.declared.region.Region.{Region}
use Rattle.iv_view.specs.Arguments.{read_arguments}
use Rattle.iv_view.specs.RegionText.{view_text}
use Rattle.iv_view.specs.Views.{second_records}
use Rattle.iv_view.specs.declared.view.View.{View}
use Rattle.iv_workspace.specs.OpenViews.{Shown}
use Rattle.iv_workspace.specs.States.{State}
use Rattle.iv_workspace.specs.declared.fault.PrintFault.{PrintFault}
use Rattle.iv_workspace.specs.declared.fault.PrintFault.TheVariants as printing

-- a view's name is 1 to 32 bytes, each printable and no space
abbrev pub is_view_name : List ℕ → Bool
is_view_name name = nat_le 1 (length name) && nat_le (length name) 32 && list_all (λ b. nat_le 33 b && nat_le b 126) name

-- the view that is open under a name
abbrev pub view_named : List (List ℕ × Shown) → List ℕ → Option Shown
view_named views name = lookup (bytes_eq name) views

-- the view that is opened under a name by these words, or the first fault: the name is no view's name; a view has it; 64 views are
-- open; one of the words
abbrev pub view_asked : State → List ℕ → List (List ℕ) → Result View Fault
view_asked s name arguments =
    if not (is_view_name name) then Err fault.BadName
    else if is_some (view_named s.views name) then Err fault.Taken
    else if nat_le 64 (length s.views) then Err fault.TooMany
    else read_arguments s.track.width (is_some s.second) (is_some s.bases) arguments

-- the view of these words is opened under the name: it is the last, and current
abbrev pub Opens : State → List ℕ → List (List ℕ) → State → Type 0
Opens old name arguments new =
    (view : View) × (view_asked old name arguments ≡ Ok view)
    × (new ≡ record old { views = old.views ++ (name, record { view = view; stale = false }) ∷ [] })

-- why no view is opened: for the first fault; or an allocation failed, if there is none
abbrev pub RefusesOpen : State → List ℕ → List (List ℕ) → Fault → Type 0
RefusesOpen s name arguments f = (view_asked s name arguments ≡ Err f) ⊎ ((f ≡ fault.NoMemory) × IsOk (view_asked s name arguments))

-- what is printed of a view, all of it or a region: its text for the records as they are, beside the second file's records and the
-- bases, if there are any
abbrev pub text_in : Option Region → State → View → List ℕ
text_in part s v = view_text part v s.genome s.track.records (second_records s.second) (unwrap_or s.bases [])

-- the same of all views, in order of opening, each under a line with its name
abbrev pub all_text : Option Region → State → List ℕ
all_text part s = flat_map (λ v. (codes "#" ++ v.0 ++ codes "\n") ++ text_in part s v.1.view) s.views

-- the number of the fault for which a print or a line is refused; none if the output failed
abbrev pub print_code : PrintFault → Option ℕ
print_code (printing.Refused f) = Some (code_of f)
print_code printing.Write = None
