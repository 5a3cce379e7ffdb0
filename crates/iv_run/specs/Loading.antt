-- The values of the files of a run, or their first fault.
use Rattle.std.specs.Prelude.{◌≡◌, ◌⊎◌, ℕ, List, Option, Result, Ok, Err}
use Rattle.std.specs.Option.{option_map, option_transpose}
use Rattle.iv_lines.specs.Genome.{Sequences}
use Rattle.iv_lines.specs.GenomeFile.{genome_of}
use Rattle.iv_text.specs.BedFile.{Bed, bed_of}
use Rattle.iv_lines.specs.declared.fault.LoadFault.{LoadFault}
use Rattle.iv_lines.specs.declared.fault.LoadCause.{LoadCause}
use Rattle.iv_lines.specs.declared.fault.LoadCause.TheVariants as cause
use Rattle.iv_lines.specs.declared.fault.Fault.{Fault}
use Rattle.iv_lines.specs.declared.fault.Fault.TheVariants as refused
use Rattle.iv_fasta.specs.Fasta.{Bases, fasta_of}
use Rattle.iv_lines.specs.Chains.{if_ok, map_fault}
use Rattle.iv_run.specs.declared.exit_reason.CliFault.{CliFault}
use Rattle.iv_run.specs.declared.exit_reason.CliFault.TheVariants.{Words, Damaged, Memory}
use Rattle.iv_args.specs.declared.plan.Slot.{Slot}
use Rattle.iv_args.specs.declared.plan.Slot.TheVariants as slot

-- how a fault of a file is reported: out of memory is no damage
abbrev pub fault_of : LoadCause → CliFault → CliFault
fault_of cause.Memory damaged = Memory
fault_of other damaged = damaged

abbrev pub damage_of : Slot → LoadFault → CliFault
damage_of slot f = fault_of f.cause (Damaged slot f)

-- a call answers with the value of a file, or with the file's first fault, or out of memory
abbrev pub IsAnswer : {T : Type 0} → Result T LoadFault → Result T LoadFault → Type 0
IsAnswer (Ok value) said = said ≡ Ok value
IsAnswer (Err f) said = (f ≡ record { line = 0; cause = cause.Memory }) ⊎ (said ≡ Err f)

-- how a fault of arguments is reported: out of memory as that
abbrev pub fault_of_arguments : Fault → CliFault
fault_of_arguments refused.NoMemory = Memory
fault_of_arguments why = Words why

-- the files of a run, and how many records each track of them may hold
pub record Parsed : Type 0 where
  pub genome : Sequences
  pub first : Bed
  pub second : Option Bed
  pub bases : Option Bases
  pub limit : ℕ

-- the files of these bytes: the genome file, the first file, and the second and the FASTA file, if there are any. A
-- BED file without a record has this width, and a track holds at most as many records as the limit; or the fault of the first
-- damaged file
abbrev pub parsed : ℕ → List ℕ → List ℕ → Option (List ℕ) → Option (List ℕ) → ℕ → Result Parsed CliFault
parsed width sizes first other bases limit =
    if_ok (map_fault (Damaged slot.Sizes) (genome_of sizes)) (λ g.
    if_ok (map_fault (Damaged slot.First) (bed_of g width limit first)) (λ records.
    if_ok (map_fault (Damaged slot.Other) (option_transpose (option_map (bed_of g width limit) other))) (λ second.
    if_ok (map_fault (Damaged slot.Bases) (option_transpose (option_map (fasta_of g) bases))) (λ found.
    Ok (record { genome = g; first = records; second = second; bases = found; limit = limit })))))
