-- The outcome of reading a whole file.
use Rattle.std.specs.Prelude.{◌≡◌, ℕ, ◌≤◌, ◌<◌, List, true, length}
use Rattle.std.specs.Io.KnownBytes.{Consumes, IsAtEnd}
use Rattle.iv_bytes.specs.Sources.{SourceState, IsInput}
use Rattle.iv_run.specs.declared.exit_reason.FileFault.{FileFault}
use Rattle.iv_run.specs.declared.exit_reason.FileFault.TheVariants.{Input, TooLong, Memory}

-- these bytes are the whole input, and not more than the limit; the source is at its end, and no more failed than before
pub record ReadsWhole (old new : SourceState) (limit : ℕ) (bytes : List ℕ) : Type 0 where
  pub input : IsInput old bytes
  pub few : length bytes ≤ limit
  pub ended : IsAtEnd new.remaining
  pub failed : new.failed ≡ old.failed

-- what each fault means for the source and for the number of bytes that it has given
abbrev pub IsFaultOf : FileFault → SourceState → SourceState → ℕ → ℕ → Type 0
IsFaultOf Input old new limit count = (new.failed ≡ true) × (count ≤ limit)
IsFaultOf TooLong old new limit count = (new.failed ≡ old.failed) × (limit < count)
IsFaultOf Memory old new limit count = (new.failed ≡ old.failed) × (count ≤ limit)

-- the source gave this front of the input, and then there was a fault
pub record StopsReading (old new : SourceState) (limit : ℕ) (fault : FileFault) : Type 0 where
  pub front : List ℕ
  pub given : Consumes old.remaining new.remaining front
  pub cause : IsFaultOf fault old new limit (length front)
