-- What a line of a script asks for, and why it is refused.
use Rattle.std.specs.Prelude.{ℕ, ◌==◌, ◌||◌, nat_le, List, [], ◌∷◌, None, Some, Result, Ok, Err, length, drop, codes, if◌then◌else◌}
use Rattle.std.specs.Option.{is_some, ok_or}
use Rattle.std.specs.Str.{bytes_eq}
use Rattle.iv_lines.specs.Bytes.{number_sign}
use Rattle.iv_lines.specs.Chains.{if_ok}
use Rattle.iv_lines.specs.Fields.{columns}
use Rattle.iv_lines.specs.Genome.{most_length}
use Rattle.iv_lines.specs.Lines.{begins_with}
use Rattle.iv_lines.specs.Number.{number}
use Rattle.iv_lines.specs.Read.{column}
use Rattle.iv_lines.specs.declared.fault.Fault.{Fault}
use Rattle.iv_workspace.specs.States.{State}
use Rattle.iv_workspace.specs.Edits.{width_of}
use Rattle.iv_workspace.specs.Regions.{region_said}
use Rattle.iv_workspace.specs.Views.{view_named}
use Rattle.iv_session.specs.EditLines.{edit_said}
use Rattle.iv_session.specs.declared.request.EditKind.{EditKind}
use Rattle.iv_workspace.specs.declared.session.edits.Target.{Target}
use Rattle.iv_session.specs.declared.request.Request.{Request}
use Rattle.iv_lines.specs.declared.fault.Fault.TheVariants as fault
use Rattle.iv_session.specs.declared.request.EditKind.TheVariants as kind
use Rattle.iv_workspace.specs.declared.session.edits.Target.TheVariants as target
use Rattle.iv_session.specs.declared.request.Request.TheVariants as request

-- the field of a list that has just one
abbrev pub only_field : List (List ℕ) → Result (List ℕ) Fault
only_field (field ∷ []) = Ok field
only_field other = Err fault.Command

-- the fields of a list that has just two
abbrev pub two_fields : List (List ℕ) → Result (List ℕ × List ℕ) Fault
two_fields (field ∷ next ∷ []) = Ok (field, next)
two_fields other = Err fault.Command

-- the length that a field means: 1 to 10 digits, and not above the greatest
abbrev pub length_said : List ℕ → Result ℕ Fault
length_said field = if_ok (ok_or (number field) fault.StopNumber) (λ n. if nat_le n most_length then Ok n else Err fault.StopNumber)

-- the edit of a track of a session that fields mean: that there is no second file is reported first
abbrev pub edit_asked : State → Target → EditKind → List (List ℕ) → Result Request Fault
edit_asked s target kind fields =
    if_ok (width_of s target) (λ width. if_ok (edit_said s.genome width kind fields) (λ e. Ok (request.Edit target e)))

-- to print of a view, or of all, the rows of a region: that no view has the name is reported first
abbrev pub show_asked : State → List (List ℕ) → Result Request Fault
show_asked s (name ∷ seq ∷ start ∷ stop ∷ []) =
    if is_some (view_named s.views name)
    then if_ok (region_said s.genome seq start stop) (λ at. Ok (request.Print name (Some at)))
    else Err fault.NoView
show_asked s other = Err fault.Command

abbrev pub show_all_asked : State → List (List ℕ) → Result Request Fault
show_all_asked s (seq ∷ start ∷ stop ∷ []) = if_ok (region_said s.genome seq start stop) (λ at. Ok (request.PrintAll (Some at)))
show_all_asked s other = Err fault.Command

-- what a command asks for with these fields, in a session
abbrev pub asked_by : State → List ℕ → List (List ℕ) → Result Request Fault
asked_by s command fields =
    if bytes_eq command (codes "add") then edit_asked s target.First kind.Add fields
    else if bytes_eq command (codes "remove") then edit_asked s target.First kind.Remove fields
    else if bytes_eq command (codes "replace") then edit_asked s target.First kind.Replace fields
    else if bytes_eq command (codes "addb") then edit_asked s target.Second kind.Add fields
    else if bytes_eq command (codes "removeb") then edit_asked s target.Second kind.Remove fields
    else if bytes_eq command (codes "replaceb") then edit_asked s target.Second kind.Replace fields
    else if bytes_eq command (codes "open") then if_ok (two_fields fields) (λ pair. Ok (request.Open pair.0 pair.1))
    else if bytes_eq command (codes "close") then if_ok (only_field fields) (λ name. Ok (request.Close name))
    else if bytes_eq command (codes "print") then if_ok (only_field fields) (λ name. Ok (request.Print name None))
    else if bytes_eq command (codes "printall") then (if length fields == 0 then Ok (request.PrintAll None) else Err fault.Command)
    else if bytes_eq command (codes "show") then show_asked s fields
    else if bytes_eq command (codes "showall") then show_all_asked s fields
    else if bytes_eq command (codes "resize") then
    if_ok (two_fields fields) (λ pair. if_ok (length_said pair.1) (λ n. Ok (request.Resize pair.0 n)))
    else Err fault.Command

-- what a line asks for in a session: nothing, if it is empty or a comment; else what its first column asks for, with the others
-- as fields
abbrev pub asked : State → List ℕ → Result Request Fault
asked s text =
    if (length text == 0) || begins_with number_sign text then Ok request.Nothing
    else asked_by s (column (columns text) 0) (drop 1 (columns text))
