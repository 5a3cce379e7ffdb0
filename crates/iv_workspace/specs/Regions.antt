-- The region of a sequence that three fields mean.
use Rattle.std.specs.Prelude.{ℕ, List, [], ◌∷◌, Result, Ok, find}
use Rattle.std.specs.Option.{unwrap_or}
use Rattle.iv_lines.specs.Chains.{unless_fault}
use Rattle.iv_lines.specs.Genome.{Sequences}
use Rattle.iv_lines.specs.Named.{name_index}
use Rattle.iv_lines.specs.Read.{has_fault, number_in}
use Rattle.iv_lines.specs.declared.fault.Fault.{Fault}
use Rattle.iv_lines.specs.declared.fault.Fault.TheVariants as fault
use Rattle.iv_track.specs.declared.region.Region.{Region}

-- the region that a name, a start and an end mean, or the first of these faults of a record of these three columns
abbrev pub region_said : Sequences → List ℕ → List ℕ → List ℕ → Result Region Fault
region_said g name start stop =
    unless_fault (find (has_fault g 3 (name ∷ start ∷ stop ∷ []))
    (fault.StartNumber ∷ fault.StopNumber ∷ fault.Order ∷ fault.UnknownSeq ∷ fault.PastEnd ∷ []))
    (Ok (record { seq = unwrap_or (name_index g name) 0; start = number_in start; stop = number_in stop }))
