-- The files of a run, one after another.
use Rattle.std.specs.Prelude.{◌≤◌, ℕ, [], length, All, Option, Some, None, Result, Ok, Err, IfOk}
use Rattle.iv_lines.specs.Genome.{Sequences}
use Rattle.iv_lines.specs.Read.{Fits}
use Rattle.iv_lines.specs.declared.fault.LoadFault.{LoadFault}
use Rattle.iv_text.specs.BedFile.{Bed}
use Rattle.iv_fasta.specs.Fasta.{Bases}
use Rattle.iv_args.specs.declared.plan.Slot.{Slot}
use Rattle.iv_args.specs.declared.plan.Slot.TheVariants as slot
use Rattle.iv_places.specs.HeldColumns.{held_width}
use Rattle.iv_places.specs.declared.places.HeldColumns.{HeldColumns}
use Rattle.iv_run.specs.Loading.{damage_of}
use Rattle.iv_run.specs.RunFiles.{FilesRead}
use Rattle.iv_run.specs.declared.exit_reason.CliFault.{CliFault}

-- the fault of a file, if it is damaged
abbrev pub fault_in : {T : Type 0} → Result T LoadFault → Option LoadFault
fault_in (Ok value) = None
fault_in (Err f) = Some f

-- the report of the first damaged file, once one more is read
abbrev pub damage_after : Slot → Option LoadFault → Option CliFault → Option CliFault
damage_after slot None damage = damage
damage_after slot (Some f) None = Some (damage_of slot f)
damage_after slot (Some f) (Some k) = Some k

-- the value of a file if it is sound, or else the one before it
abbrev pub sound_or : {T : Type 0} → Result T LoadFault → T → T
sound_or (Ok value) old = value
sound_or (Err f) old = old

abbrev pub sound_or_none : {T : Type 0} → Result T LoadFault → Option T → Option T
sound_or_none (Ok value) old = Some value
sound_or_none (Err f) old = old

-- no file is read yet
abbrev pub none_read : ℕ → ℕ → HeldColumns → FilesRead
none_read width limit which = record {
  files = record { genome = []; first = record { width = held_width which width; records = [] }; second = None; bases = None; limit = limit };
  damage = None;
  width = width;
  columns = which;
}

-- what is read once the genome file is
abbrev pub with_sizes : Result Sequences LoadFault → FilesRead → FilesRead
with_sizes held read = record read { files = record read.files { genome = sound_or held read.files.genome }; damage = damage_after slot.Sizes (fault_in held) read.damage }

-- once the first file is
abbrev pub with_first : Result Bed LoadFault → FilesRead → FilesRead
with_first held read = record read { files = record read.files { first = sound_or held read.files.first }; damage = damage_after slot.First (fault_in held) read.damage }

-- once the second file is
abbrev pub with_second : Result Bed LoadFault → FilesRead → FilesRead
with_second held read = record read { files = record read.files { second = sound_or_none held read.files.second }; damage = damage_after slot.Other (fault_in held) read.damage }

-- once the FASTA file is
abbrev pub with_bases : Result Bases LoadFault → FilesRead → FilesRead
with_bases held read = record read { files = record read.files { bases = sound_or_none held read.files.bases }; damage = damage_after slot.Bases (fault_in held) read.damage }

-- the records are of the file's width, and on the genome, and they are not more than the limit
pub record AreOn (g : Sequences) (limit : ℕ) (file : Bed) : Type 0 where
  pub fit : All (Fits g file.width) file.records
  pub few : length file.records ≤ limit

-- so are those of a file, unless it is damaged
abbrev pub IsOn : Sequences → ℕ → Result Bed LoadFault → Type 0
IsOn g limit held = IfOk held (AreOn g limit)
