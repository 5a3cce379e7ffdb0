-- How reading a whole file ends.
use Rattle.std.specs.Prelude.{◌≡◌, ◌≢◌, ℕ, ⊤, ◌≤◌, ◌<◌, List, Result, Ok, Err}
use Rattle.iv_bytes.specs.Sources.{SourceState}
use Rattle.iv_run.specs.declared.exit_reason.FileFault.{FileFault}
use Rattle.iv_run.specs.declared.exit_reason.FileFault.TheVariants.{Input, TooLong, Memory}
use Rattle.iv_run.specs.Files.{ReadsWhole, StopsReading}

-- a file was read, or reading it ended with a fault
abbrev pub EndsReading : SourceState → SourceState → ℕ → Result (List ℕ) FileFault → Type 0
EndsReading old new limit (Ok bytes) = ReadsWhole old new limit bytes
EndsReading old new limit (Err fault) = StopsReading old new limit fault

-- it did not end out of memory
abbrev pub HadMemory : Result (List ℕ) FileFault → Type 0
HadMemory (Ok bytes) = ⊤
HadMemory (Err fault) = fault ≢ Memory

-- the file was reported as too long
abbrev pub IsTooLong : Result (List ℕ) FileFault → Type 0
IsTooLong (Ok bytes) = ⊥
IsTooLong (Err fault) = fault ≡ TooLong

-- why a piece is not taken that brings the bytes to this number
abbrev pub IsPieceFault : FileFault → ℕ → ℕ → Type 0
IsPieceFault Input limit count = ⊥
IsPieceFault TooLong limit count = limit < count
IsPieceFault Memory limit count = count ≤ limit
