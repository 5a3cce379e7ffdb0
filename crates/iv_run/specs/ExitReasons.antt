-- How a run ends: its exit status, and its line on standard error.
use Rattle.std.specs.Prelude.{ℕ, ◌++◌, nat_le, Bool, if◌then◌else◌, List, [], Option, None, Some, codes, decimal}
use Rattle.std.specs.Option.{is_some, option_and_then, unwrap_or}
use Rattle.std.specs.declared.io.ErrorKind.{ErrorKind}
use Rattle.std.specs.declared.io.ErrorKind.TheVariants.{OutOfMemory}
use Rattle.iv_lines.specs.Fault.{fault_text, load_text}
use Rattle.iv_lines.specs.declared.fault.Fault.{Fault}
use Rattle.iv_lines.specs.declared.fault.Fault.TheVariants as refused
use Rattle.iv_run.specs.declared.exit_reason.ExitReason.{ExitReason}
use Rattle.iv_run.specs.declared.exit_reason.ExitReason.TheVariants as exit_reason
use Rattle.iv_run.specs.Loading.{fault_of_arguments}
use Rattle.iv_run.specs.declared.exit_reason.CliFault.{CliFault}
use Rattle.iv_run.specs.declared.exit_reason.CliFault.TheVariants as fault
use Rattle.iv_run.specs.declared.exit_reason.FileFault.{FileFault}
use Rattle.iv_run.specs.declared.exit_reason.FileFault.TheVariants as file
use Rattle.iv_args.specs.declared.plan.Slot.{Slot}
use Rattle.iv_args.specs.Arguments.{RunPlan, file_of}

-- how an ending is reported: its exit status, the file that it speaks of, and what is said of it
pub record Report : Type 0 where
  pub status : ℕ
  pub slot : Option Slot
  pub text : List ℕ

-- a report with this status, of this file or of none, that says this
abbrev pub with_status : ℕ → Option Slot → List ℕ → Report
with_status status slot text = record { status = status; slot = slot; text = text }

-- the report of an ending
abbrev pub report_of : ExitReason → Report
report_of exit_reason.Done = with_status 0 None []
report_of exit_reason.Refused = with_status 1 None []
report_of (exit_reason.Words f) = with_status 2 None (fault_text f)
report_of (exit_reason.Damaged slot damage) = with_status 3 (Some slot) (codes "line " ++ decimal damage.line ++ codes ": " ++ load_text damage.cause)
report_of (exit_reason.Unreadable slot) = with_status 4 (Some slot) (codes "cannot be read")
report_of (exit_reason.TooLong slot) = with_status 4 (Some slot) (codes "too long")
report_of exit_reason.InputUnreadable = with_status 4 None (codes "input cannot be read")
report_of exit_reason.InputTooLong = with_status 4 None (codes "input too long")
report_of exit_reason.Output = with_status 4 None (codes "output cannot be written")
report_of exit_reason.Memory = with_status 5 None (codes "no memory")

-- the exit status of an ending
abbrev pub status_of : ExitReason → ℕ
status_of ended = (report_of ended).status

-- the ending if the system does not give the arguments, by the kind of its error
abbrev pub ending_of_kind : ErrorKind → ExitReason
ending_of_kind OutOfMemory = exit_reason.Memory
ending_of_kind kind = exit_reason.Words refused.Words

-- the ending of a run with a fault
abbrev pub ending_of : CliFault → ExitReason
ending_of (fault.Words f) = exit_reason.Words f
ending_of (fault.Damaged slot damage) = exit_reason.Damaged slot damage
ending_of fault.Output = exit_reason.Output
ending_of fault.Memory = exit_reason.Memory

-- the ending of arguments that are no plan
abbrev pub ending_of_arguments : Fault → ExitReason
ending_of_arguments why = ending_of (fault_of_arguments why)

-- the ending of a run whose file was not read
abbrev pub ending_of_file : Slot → FileFault → ExitReason
ending_of_file slot file.Input = exit_reason.Unreadable slot
ending_of_file slot file.TooLong = exit_reason.TooLong slot
ending_of_file slot file.Memory = exit_reason.Memory

-- whether all that was asked for was carried out
abbrev pub is_through : ExitReason → Bool
is_through ended = nat_le (report_of ended).status 1

-- the ending once the output has handed on what it held, or has failed to
abbrev pub ending_after : Bool → ExitReason → ExitReason
ending_after flushed before = if is_through before then (if flushed then before else exit_reason.Output) else before

-- the name of the file of a plan that an ending speaks of, empty if it speaks of none
abbrev pub name_meant : RunPlan → ExitReason → List ℕ
name_meant plan ended = unwrap_or (option_and_then (file_of plan) (report_of ended).slot) []

-- the line on standard error that reports an ending, given the name of the file that is meant; none if all was carried out
abbrev pub line_of : List ℕ → ExitReason → List ℕ
line_of name ended =
    let report = report_of ended in
    let text = if is_some report.slot then name ++ codes ": " ++ report.text else report.text in
    if is_through ended then [] else codes "bedkeep: " ++ text ++ codes "\n"
