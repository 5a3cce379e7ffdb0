-- What a print in one sweep leaves of its sink.
use Rattle.std.specs.Prelude.{◌≡◌, ℕ, List, Result, Ok, Err}
use Rattle.iv_bytes.specs.Sinks.{SinkState, Takes, FailsIn}
use Rattle.iv_run.specs.declared.exit_reason.CliFault.{CliFault}
use Rattle.iv_run.specs.declared.exit_reason.CliFault.TheVariants as fault

-- if this is the text: the sink has taken all of it; or a prefix of it, and is failed; or nothing, for out of memory
abbrev pub Prints : SinkState → SinkState → Result (Unit {0}) CliFault → List ℕ → Type 0
Prints old new (Ok done) text = Takes old new text
Prints old new (Err fault.Output) text = FailsIn old new text
Prints old new (Err fault.Memory) text = new ≡ old
Prints old new (Err (fault.Words code)) text = ⊥
Prints old new (Err (fault.Damaged slot damage)) text = ⊥
