-- The streams of a script.
use Rattle.iv_bytes.specs.Sources.{SourceState}
use Rattle.iv_bytes.specs.Sinks.{SinkState}

-- what remains of the input, and what the output and the messages have taken
pub record Streams : Type 0 where
  pub input : SourceState
  pub output : SinkState
  pub messages : SinkState

-- this input, this output and these messages
abbrev pub streams : SourceState → SinkState → SinkState → Streams
streams input output messages = record { input = input; output = output; messages = messages }
