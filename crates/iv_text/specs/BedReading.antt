-- A BED file that is read in pieces: what is held of its records, and what is known of it after some of its bytes.
use Rattle.std.specs.Prelude.{◌≡◌, ◌≤◌, ℕ, ◌+◌, ◌++◌, All, MatchOption, List, [], Option, None, Result, Ok, Err, length, map}
use Rattle.std.specs.Option.{unwrap_or}
use Rattle.iv_text.specs.BedFile.{Bed, Draft, after_record, bed_of}
use Rattle.iv_lines.specs.Chains.{if_ok, after_all}
use Rattle.iv_lines.specs.Genome.{Sequences}
use Rattle.iv_lines.specs.Lines.{lines}
use Rattle.iv_lines.specs.Read.{Fits}
use Rattle.iv_lines.specs.RecordValue.{RecordValue}
use Rattle.iv_lines.specs.declared.fault.LoadFault.{LoadFault}
use Rattle.iv_places.specs.HeldColumns.{held_as, held_bed, held_width}
use Rattle.iv_places.specs.declared.places.HeldColumns.{HeldColumns}

-- what is known of a file after lines of which the first has the number n, or the first fault
abbrev pub after_records : Sequences → ℕ → ℕ → Draft → List (List ℕ) → Result Draft LoadFault
after_records g limit n d lines = after_all (λ n. after_record g limit) n d lines

-- the file that is known, of which these columns are held, or its fault: one without a record has the width that is handed in
abbrev pub finished : HeldColumns → ℕ → Result Draft LoadFault → Result Bed LoadFault
finished which empty known = if_ok known (λ d. Ok (record { width = held_width which (unwrap_or d.width empty); records = d.records }))

-- a file with only the columns that are held, or the file's fault
abbrev pub held_or_fault : HeldColumns → Result Bed LoadFault → Result Bed LoadFault
held_or_fault which (Ok file) = Ok (held_bed which file)
held_or_fault which (Err f) = Err f

-- the BED file of a text, with only the columns that are held, or its first fault
abbrev pub held_bed_of : HeldColumns → Sequences → ℕ → ℕ → List ℕ → Result Bed LoadFault
held_bed_of which g empty limit text = held_or_fault which (bed_of g empty limit text)

-- lines that were read: the number of the next one, their width, once there is a record, and what is held of these
pub record LinesRead : Type 0 where
  pub number : ℕ
  pub width : Option ℕ
  pub records : List RecordValue

-- what is known of the file by what is held of it
abbrev pub known : LinesRead → Draft
known l = record { width = l.width; records = l.records }

-- what is held of a file that is known, or its first fault
abbrev pub held_draft : HeldColumns → Result Draft LoadFault → Result Draft LoadFault
held_draft which (Ok d) = Ok (record { width = d.width; records = map (held_as which) d.records })
held_draft which (Err f) = Err f

-- what is held after these lines too, or the first fault
abbrev pub after : HeldColumns → Sequences → ℕ → LinesRead → List (List ℕ) → Result Draft LoadFault
after which g limit l rest = held_draft which (after_records g limit l.number (known l) rest)

-- what is held of a record of this width on the genome
abbrev pub IsHeld : HeldColumns → Sequences → ℕ → RecordValue → Type 0
IsHeld which g width k = (r : RecordValue) × Fits g width r × (k ≡ held_as which r)

-- what was read is sound: its width is 3 to 6, once there is a record; its records are what is held of records of that width on the
-- genome; and they aren't more than the limit
pub record AreSoundLines (which : HeldColumns) (g : Sequences) (limit : ℕ) (l : LinesRead) : Type 0 where
  pub fit : MatchOption l.width (l.records ≡ []) (λ w. (3 ≤ w) × (w ≤ 6) × All (IsHeld which g w) l.records)
  pub few : length l.records ≤ limit

-- lines of which none was read
abbrev pub none_read : LinesRead
none_read = record { number = 1; width = None; records = [] }

-- all lines of a text were read, whatever lines come after them
abbrev pub TakesLines : HeldColumns → Sequences → ℕ → LinesRead → LinesRead → List ℕ → Type 0
TakesLines which g limit old new text = (rest : List (List ℕ)) → after which g limit old (lines text ++ rest) ≡ after which g limit new rest

-- the lines of a text have a fault, and this is the first, whatever comes after them
abbrev pub RefusesLines : HeldColumns → Sequences → ℕ → LinesRead → List ℕ → LoadFault → Type 0
RefusesLines which g limit old text f = (rest : List (List ℕ)) → after which g limit old (lines text ++ rest) ≡ Err f

-- a file of which some bytes were read: its lines, and the bytes of a line that hasn't ended
pub record Reading : Type 0 where
  pub read : LinesRead
  pub tail : List ℕ

-- a file of which no byte was read
abbrev pub begun : Reading
begun = record { read = none_read; tail = [] }

-- what is held of the file once these remaining bytes are read, or its first fault
abbrev pub read_on : HeldColumns → Sequences → ℕ → Reading → List ℕ → Result Draft LoadFault
read_on which g limit r more = after which g limit r.read (lines (r.tail ++ more))

-- more than the number of lines that were read, and at most one more than the number of bytes
abbrev pub size_of : Reading → ℕ
size_of r = r.read.number + length r.tail
