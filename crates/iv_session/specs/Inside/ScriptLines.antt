-- What one line writes, as the functions that run it see it.
use Rattle.std.specs.Prelude.{◌≡◌, ℕ, List, Option, None, Some, Result, Ok, Err}
use Rattle.iv_bytes.specs.Sinks.{SinkState, Takes, FailsIn}
use Rattle.iv_lines.specs.Fault.{fault_text}
use Rattle.iv_lines.specs.declared.fault.Fault.{Fault}
use Rattle.iv_workspace.specs.States.{State}
use Rattle.iv_session.specs.Inside.Scripts.{refusal_of}
use Rattle.iv_session.specs.Written.{Written}
use Rattle.iv_workspace.specs.declared.fault.PrintFault.{PrintFault}
use Rattle.iv_session.specs.declared.request.Request.{Request}
use Rattle.iv_session.specs.declared.script.RunCause.{RunCause}
use Rattle.iv_session.specs.Requests.{asked}
use Rattle.iv_session.specs.ScriptLines.{AsksToPrint, Ends, EndsAt, RunsLine}

-- what is written of a line that was not done: with a fault it is refused, and without one the output failed at its text
abbrev pub WritesFault : Option Fault → SinkState → SinkState → Written → Type 0
WritesFault None out0 out1 written = FailsIn out0 out1 written.output × (written.refusal ≡ None)
WritesFault (Some f) out0 out1 written = Takes out0 out1 written.output × (written.refusal ≡ Some (fault_text f))

abbrev pub WritesAs : Result (Unit {0}) PrintFault → SinkState → SinkState → Written → Type 0
WritesAs (Ok done) out0 out1 written = Takes out0 out1 written.output × (written.refusal ≡ None)
WritesAs (Err f) out0 out1 written = WritesFault (refusal_of f) out0 out1 written

-- a line that has no fault, and at whose text the output failed, is a print
abbrev pub PrintsUnless : Result (Unit {0}) PrintFault → Result Request Fault → Type 0
PrintsUnless (Ok done) asks = Unit {0}
PrintsUnless (Err f) asks = refusal_of f ≡ None → AsksToPrint asks

-- a line that asks for this ends as it may, and writes its text
pub record Writes (asks : Result Request Fault) (old new : State) (out0 out1 : SinkState) (result : Result (Unit {0}) PrintFault) : Type 0 where
  pub written : Written
  pub ends : Ends asks old new written
  pub writes : WritesAs result out0 out1 written
  pub prints : PrintsUnless result asks

-- what the last line of a run may do that ends at a sink for this cause: what lines may do, and no more than that
abbrev pub RunsLast : RunCause → State → List ℕ → State → Written → Type 0
RunsLast failed old line new written = RunsLine old line new written × EndsAt failed (asked old line) old new written
