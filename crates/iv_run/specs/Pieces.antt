-- A BED file of which some bytes are not read yet.
use Rattle.std.specs.Prelude.{◌≡◌, ◌≤◌, ◌⊎◌, ℕ, ◌+◌, ◌++◌, List, Result, Ok, Err, length}
use Rattle.iv_lines.specs.Genome.{Sequences}
use Rattle.iv_text.specs.BedReading.{AreSoundLines, Reading, begun, read_on, size_of}
use Rattle.iv_places.specs.declared.places.HeldColumns.{HeldColumns}
use Rattle.iv_lines.specs.declared.fault.LoadCause.TheVariants as cause
use Rattle.iv_lines.specs.declared.fault.LoadFault.{LoadFault}

-- what is known of a file once these bytes of it are read: what is held of them and the remaining bytes, whatever these are, give the
-- whole file; or the fault is out of memory, or that of the file, whatever remains
abbrev pub SaysSoFar : HeldColumns → Sequences → ℕ → List ℕ → Result Reading LoadFault → Type 0
SaysSoFar which g limit front (Ok r) =
    AreSoundLines which g limit r.read × (size_of r ≤ 1 + length front) × ((more : List ℕ) → read_on which g limit begun (front ++ more) ≡ read_on which g limit r more)
SaysSoFar which g limit front (Err f) = (f ≡ record { line = 0; cause = cause.Memory }) ⊎ ((more : List ℕ) → read_on which g limit begun (front ++ more) ≡ Err f)
