-- Requests that fit their session, and the two records of one line.
use Rattle.std.specs.Prelude.{◌≤◌, IfSome, Result, Ok}
use Rattle.iv_lines.specs.Chains.{if_ok}
use Rattle.iv_lines.specs.Genome.{most_length}
use Rattle.iv_lines.specs.RecordValue.{RecordValue}
use Rattle.iv_lines.specs.declared.fault.Fault.{Fault}
use Rattle.iv_view.specs.RegionText.{IsWithin}
use Rattle.iv_workspace.specs.States.{State}
use Rattle.iv_workspace.specs.Edits.{EditFits, FitsIn}
use Rattle.iv_session.specs.declared.request.Request.{Request}
use Rattle.iv_session.specs.declared.request.Request.TheVariants as request

-- the records of a request fit the session, no length is above the greatest, and a region is one of its genome
abbrev pub RequestFits : State → Request → Type 0
RequestFits s (request.Edit target e) = EditFits (FitsIn s target) e
RequestFits s (request.Resize name n) = n ≤ most_length
RequestFits s request.Nothing = Unit {0}
RequestFits s (request.Open name arguments) = Unit {0}
RequestFits s (request.Close name) = Unit {0}
RequestFits s (request.Print name part) = IfSome part (IsWithin s.genome)
RequestFits s (request.PrintAll part) = IfSome part (IsWithin s.genome)

-- two records, or the fault of the first, or else that of the second
abbrev pub both : Result RecordValue Fault → Result RecordValue Fault → Result (RecordValue × RecordValue) Fault
both first second = if_ok first (λ r. if_ok second (λ q. Ok (r, q)))
