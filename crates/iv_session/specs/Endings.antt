-- How a run of a script ends, as its contract has it.
use Rattle.std.specs.Prelude.{◌≡◌, ◌≢◌, ℕ, ⊤, false, Result, Ok, Err}
use Rattle.iv_workspace.specs.States.{State}
use Rattle.iv_session.specs.Scripts.{Done}
use Rattle.iv_session.specs.Stops.{Stopped}
use Rattle.iv_session.specs.Streams.{Streams}
use Rattle.iv_session.specs.declared.script.RunCause.TheVariants.{TooLong, Memory}
use Rattle.iv_session.specs.declared.script.RunFault.{RunFault}
use Rattle.iv_session.specs.declared.script.Summary.{Summary}

-- a run led from one session to another, and from these streams to those, and ended like this
abbrev pub Ran : State → State → Streams → Streams → ℕ → ℕ → Result Summary RunFault → Type 0
Ran old new before after most_lines most (Ok summary) = Done old new before after most_lines most summary.lines summary.refused
Ran old new before after most_lines most (Err fault) = Stopped old new before after most_lines most fault.line fault.cause

-- none of the streams is failed
abbrev pub AreSoundStreams : Streams → Type 0
AreSoundStreams s = (s.input.failed ≡ false) × (s.output.failed ≡ false) × (s.messages.failed ≡ false)

-- the run did not end out of memory
abbrev pub HadMemory : Result Summary RunFault → Type 0
HadMemory (Ok summary) = ⊤
HadMemory (Err fault) = fault.cause ≢ Memory

-- the run was reported as too long at line number n
abbrev pub IsTooLongAt : ℕ → Result Summary RunFault → Type 0
IsTooLongAt n (Ok summary) = ⊥
IsTooLongAt n (Err fault) = (fault.line ≡ n) × (fault.cause ≡ TooLong)
