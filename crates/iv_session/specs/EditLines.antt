-- The edits that columns mean.
use Rattle.std.specs.Prelude.{◌+◌, ℕ, ◌==◌, if◌then◌else◌, List, Result, Ok, Err, length, take, drop}
use Rattle.iv_lines.specs.Chains.{if_ok}
use Rattle.iv_lines.specs.Genome.{Sequences}
use Rattle.iv_lines.specs.Read.{read_columns}
use Rattle.iv_lines.specs.RecordValue.{RecordValue}
use Rattle.iv_lines.specs.declared.fault.Fault.{Fault}
use Rattle.iv_lines.specs.declared.fault.Fault.TheVariants as fault
use Rattle.iv_workspace.specs.declared.session.edits.Edit.{Edit}
use Rattle.iv_workspace.specs.declared.session.edits.Edit.TheVariants as edit
use Rattle.iv_session.specs.declared.request.EditKind.{EditKind}
use Rattle.iv_session.specs.declared.request.EditKind.TheVariants as kind

-- the records of twice as many columns as the width: one of the first half, and one of the other
abbrev pub read_two : Sequences → ℕ → List (List ℕ) → Result (RecordValue × RecordValue) Fault
read_two g width cs =
    if length cs == width + width
    then if_ok (read_columns g width (take width cs)) (λ r. if_ok (read_columns g width (drop width cs)) (λ q. Ok (r, q)))
    else Err fault.Columns

-- the edit of a kind that columns mean on a genome, at the width of a track, or the first fault
abbrev pub edit_said : Sequences → ℕ → EditKind → List (List ℕ) → Result Edit Fault
edit_said g width kind.Add cs = if_ok (read_columns g width cs) (λ r. Ok (edit.Add r))
edit_said g width kind.Remove cs = if_ok (read_columns g width cs) (λ r. Ok (edit.Remove r))
edit_said g width kind.Replace cs = if_ok (read_two g width cs) (λ records. Ok (edit.Replace records.0 records.1))
