-- The outcome of one line, and its texts.
use Rattle.std.specs.Prelude.{Option, Some, None, Result, Ok, Err, ◌≡◌, ℕ, List, [], if◌then◌else◌}
use Rattle.std.specs.Option.{is_some}
use Rattle.iv_bytes.specs.Sinks.{SinkState, Takes, FailsIn}
use Rattle.iv_lines.specs.Fault.{fault_text}
use Rattle.iv_lines.specs.declared.fault.Fault.{Fault}
use Rattle.iv_workspace.specs.declared.fault.PrintFault.{PrintFault}
use Rattle.iv_workspace.specs.declared.fault.PrintFault.TheVariants as printing
use Rattle.iv_session.specs.Written.{Written, message}
use Rattle.iv_session.specs.declared.line.Outcome.{Outcome}
use Rattle.iv_session.specs.declared.script.RunCause.{RunCause}
use Rattle.iv_session.specs.declared.line.Outcome.TheVariants as outcome
use Rattle.iv_session.specs.declared.script.RunCause.TheVariants as cause

-- whether a line is refused, as a number
abbrev pub refusal_count : Option (List ℕ) → ℕ
refusal_count refusal = if is_some refusal then 1 else 0

-- how many refusals an outcome counts as
abbrev pub refusals_of : Outcome → ℕ
refusals_of outcome.Done = 0
refusals_of outcome.Refused = 1

-- one line was run that may write this, and its texts are written
pub record RanLine (may : Written → Type 0) (n : ℕ) (out0 out1 said0 said1 : SinkState) (ended_as : Outcome) : Type 0 where
  pub written : Written
  pub makes : may written
  pub output : Takes out0 out1 written.output
  pub messages : Takes said0 said1 (message n written.refusal)
  pub count : refusal_count written.refusal ≡ refusals_of ended_as

-- a sink failed at one of two texts, and the other was put
abbrev pub FailsAt : RunCause → SinkState → SinkState → SinkState → SinkState → List ℕ → List ℕ → Type 0
FailsAt cause.Output out0 out1 said0 said1 output messages = FailsIn out0 out1 output × Takes said0 said1 []
FailsAt cause.Messages out0 out1 said0 said1 output messages = Takes out0 out1 output × FailsIn said0 said1 messages
FailsAt other out0 out1 said0 said1 output messages = ⊥

-- one line was run that may write this, and a sink failed at one of its texts
pub record FailedLine (may : Written → Type 0) (n : ℕ) (out0 out1 said0 said1 : SinkState) (failed : RunCause) : Type 0 where
  pub written : Written
  pub makes : may written
  pub texts : FailsAt failed out0 out1 said0 said1 written.output (message n written.refusal)

-- the fault for which a line is refused; none if the output failed
abbrev pub refusal_of : PrintFault → Option Fault
refusal_of (printing.Refused f) = Some f
refusal_of printing.Write = None

-- a line that was not done is reported by its fault; without one the output failed
abbrev pub Tells : Option Fault → ℕ → SinkState → SinkState → Result Outcome RunCause → Type 0
Tells None n said0 said1 (Ok ended_as) = ⊥
Tells None n said0 said1 (Err failed) = (said1 ≡ said0) × (failed ≡ cause.Output)
Tells (Some f) n said0 said1 (Ok ended_as) = Takes said0 said1 (message n (Some (fault_text f))) × (ended_as ≡ outcome.Refused)
Tells (Some f) n said0 said1 (Err failed) = FailsIn said0 said1 (message n (Some (fault_text f))) × (failed ≡ cause.Messages)
