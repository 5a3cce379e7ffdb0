-- How the run of a script ends.
use Rattle.std.specs.Prelude.{◌==◌, if◌then◌else◌, Result, Ok, Err}
use Rattle.iv_run.specs.declared.exit_reason.ExitReason.{ExitReason}
use Rattle.iv_run.specs.declared.exit_reason.ExitReason.TheVariants as exit_reason
use Rattle.iv_session.specs.declared.script.Summary.{Summary}
use Rattle.iv_session.specs.declared.script.RunFault.{RunFault}
use Rattle.iv_session.specs.declared.script.RunCause.{RunCause}
use Rattle.iv_session.specs.declared.script.RunCause.TheVariants as cause

-- the ending of a script that stopped, at a fault of the output or of the messages if not for another cause
abbrev pub ending_of_cause : RunCause → ExitReason
ending_of_cause cause.Input = exit_reason.InputUnreadable
ending_of_cause cause.TooLong = exit_reason.InputTooLong
ending_of_cause cause.Memory = exit_reason.Memory
ending_of_cause sink = exit_reason.Output

-- the ending of a script: whether a line of it was refused, or why it stopped
abbrev pub ending_of_run : Result Summary RunFault → ExitReason
ending_of_run (Ok summary) = if summary.refused == 0 then exit_reason.Done else exit_reason.Refused
ending_of_run (Err stopped) = ending_of_cause stopped.cause
