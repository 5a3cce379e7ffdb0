-- The files of a run once they are read.
use Rattle.std.specs.Prelude.{◌≡◌, ◌⊎◌, ⊤, ℕ, Bool, true, false, List, [], Option, None, Some, All, Result, Ok, Err}
use Rattle.std.specs.Option.{option_map}
use Rattle.iv_text.specs.BedFile.{Bed}
use Rattle.iv_lines.specs.Genome.{Sequences}
use Rattle.iv_text.specs.BedReading.{held_bed_of}
use Rattle.iv_lines.specs.RecordValue.{RecordValue}
use Rattle.iv_places.specs.HeldColumns.{held_bed}
use Rattle.iv_places.specs.declared.places.HeldColumns.{HeldColumns}
use Rattle.iv_lines.specs.declared.fault.LoadFault.{LoadFault}
use Rattle.iv_fasta.specs.Fasta.{Bases, fasta_of}
use Rattle.iv_fasta.specs.FastaReading.{Wanted, is_wanted, only, only_or_fault}
use Rattle.iv_run.specs.Loading.{IsAnswer, Parsed, parsed}
use Rattle.iv_run.specs.declared.exit_reason.CliFault.{CliFault}
use Rattle.iv_run.specs.declared.exit_reason.CliFault.TheVariants.{Memory}

-- the files of a run while they are read: those that were read so far; the report of the first damaged one; which width a BED file without
-- a record has, and which columns of BED files are held
pub record FilesRead : Type 0 where
  pub files : Parsed
  pub damage : Option CliFault
  pub width : ℕ
  pub columns : HeldColumns

-- these are the bases of the wanted sequences of the FASTA file of a text on this genome, or its first fault, or out of memory
abbrev pub IsFasta : Wanted → Sequences → List ℕ → Result Bases LoadFault → Type 0
IsFasta wanted g text file = IsAnswer file (only_or_fault wanted (fasta_of g text))

-- each of these records is on a wanted sequence: a view of a first file of these asks for no other base
abbrev pub AreWanted : Wanted → List RecordValue → Type 0
AreWanted wanted records = All (λ r. is_wanted wanted r.seq ≡ true) records

-- this is the BED file of a text, with only the columns that are held, or its first fault, or out of memory
abbrev pub IsParsed : HeldColumns → Sequences → ℕ → ℕ → List ℕ → Result Bed LoadFault → Type 0
IsParsed which g width limit text file = IsAnswer file (held_bed_of which g width limit text)

-- files with only the columns of BED files that are held, and with the bases of the wanted sequences alone
abbrev pub held_files : HeldColumns → Wanted → Parsed → Parsed
held_files which wanted files = record files {
  first = held_bed which files.first;
  second = option_map (held_bed which) files.second;
  bases = option_map (only wanted) files.bases;
}

-- a call answers with files as they are held: these columns of BED files, and the bases of the wanted sequences alone; or it reports the
-- fault of the first damaged file, or out of memory
abbrev pub Reports : HeldColumns → Wanted → Result Parsed CliFault → Result Parsed CliFault → Type 0
Reports which wanted (Ok files) said = (whole : Parsed) × (said ≡ Ok whole) × (files ≡ held_files which wanted whole)
Reports which wanted (Err k) said = (k ≡ Memory) ⊎ (said ≡ Err k)

-- the files that were read, or the report of the first damaged one
abbrev pub report_by : Parsed → Option CliFault → Result Parsed CliFault
report_by files None = Ok files
report_by files (Some k) = Err k

-- the files so far are those of these bytes, as they are held: one that isn't read yet counts as empty, or as not named
abbrev pub AreOf : Wanted → List ℕ → List ℕ → Option (List ℕ) → Option (List ℕ) → FilesRead → Type 0
AreOf wanted sizes first second fasta_text read =
    Reports read.columns wanted (report_by read.files read.damage) (parsed read.width sizes first second fasta_text read.files.limit)

-- the genome file was read, and has these bytes, for a plan of this width and this limit, with these columns held; no other file is read yet
pub record HasBegun (wide most : ℕ) (which : HeldColumns) (sizes : List ℕ) (read : FilesRead) : Type 0 where
  pub are : AreOf None sizes [] None None read
  pub width : read.width ≡ wide
  pub limit : read.files.limit ≡ most
  pub columns : read.columns ≡ which

-- one more file was read, for the same plan
pub record AreForOne (old new : FilesRead) : Type 0 where
  pub width : new.width ≡ old.width
  pub limit : new.files.limit ≡ old.files.limit
  pub columns : new.columns ≡ old.columns

-- the first file was read, and has these bytes; if no file is damaged, it is that of these bytes on the genome
pub record TakesFirst (text : List ℕ) (old new : FilesRead) : Type 0 where
  pub plan : AreForOne old new
  pub sound : new.damage ≡ None → IsParsed old.columns old.files.genome old.width old.files.limit text (Ok new.files.first)
  pub are : (sizes : List ℕ) → AreOf None sizes [] None None old → AreOf None sizes text None None new

-- what is held of a file that is named is that of its bytes
abbrev pub IsIfNamed : {H : Type 0} → (List ℕ → H → Type 0) → Option (List ℕ) → Option H → Type 0
IsIfNamed is_of None held = ⊤
IsIfNamed is_of (Some text) None = ⊥
IsIfNamed is_of (Some text) (Some held) = is_of text held

-- the second file was read, if there is one, and has these bytes; if no file is damaged, it is that of these bytes
pub record TakesSecond (text : Option (List ℕ)) (old new : FilesRead) : Type 0 where
  pub plan : AreForOne old new
  pub sound : new.damage ≡ None → IsIfNamed (λ bytes file. IsParsed old.columns old.files.genome old.width old.files.limit bytes (Ok file)) text new.files.second
  pub are : (sizes first : List ℕ) → AreOf None sizes first None None old → AreOf None sizes first text None new

-- the FASTA file was read, if there is one, and has these bytes; the bases of the wanted sequences are held, and if no file is damaged,
-- they are those of these bytes
pub record TakesFasta (wanted : Wanted) (text : Option (List ℕ)) (old new : FilesRead) : Type 0 where
  pub plan : AreForOne old new
  pub sound : new.damage ≡ None → IsIfNamed (λ bytes found. IsFasta wanted old.files.genome bytes (Ok found)) text new.files.bases
  pub first : new.files.first ≡ old.files.first
  pub are : (sizes first : List ℕ) (second : Option (List ℕ)) → AreOf None sizes first second None old → AreOf wanted sizes first second text new

-- these sequences are wanted: for rows those that are on a record of this first file, or else all
abbrev pub AreAskedFor : Bool → Bed → Wanted → Type 0
AreAskedFor false first wanted = wanted ≡ None
AreAskedFor true first wanted = AreWanted wanted first.records
