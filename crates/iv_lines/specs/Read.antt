-- The record that a line means, or its first fault.
use Rattle.std.specs.Prelude.{◌≡◌, ◌<◌, ◌≤◌, ℕ, IsSome, ◌==◌, ◌&&◌, ◌||◌, not, nat_le, nat_lt, Bool, false, List, [], ◌∷◌, Option, Result, Ok, length, find}
use Rattle.std.specs.List.{slice_index_or, list_any}
use Rattle.std.specs.Option.{unwrap_or, is_none}
use Rattle.iv_lines.specs.Bytes.{nul, line_feed, carriage_return}
use Rattle.iv_lines.specs.Chains.{unless_fault}
use Rattle.iv_lines.specs.Fields.{columns}
use Rattle.iv_lines.specs.Number.{number}
use Rattle.iv_lines.specs.RecordValue.{RecordValue, strand_of}
use Rattle.iv_lines.specs.Genome.{Sequences, length_at, sequence_length}
use Rattle.iv_lines.specs.Named.{name_index}
use Rattle.iv_lines.specs.declared.record_ref.Strand.{Strand}
use Rattle.iv_lines.specs.declared.fault.Fault.{Fault}
use Rattle.iv_lines.specs.declared.fault.Fault.TheVariants as fault

-- a name or a score is refused: it is empty, or holds CR, LF or NUL
abbrev pub bad_text : List ℕ → Bool
bad_text bs = (length bs == 0) || list_any (λ b. b == carriage_return || b == line_feed || b == nul) bs

-- the column at an index, or an empty one past the last
abbrev pub column : List (List ℕ) → ℕ → List ℕ
column cs k = slice_index_or cs k []

-- the number that a column means, or 0
abbrev pub number_in : List ℕ → ℕ
number_in c = unwrap_or (number c) 0

-- the length of the sequence that a column names, or 0
abbrev pub length_of : Sequences → List ℕ → ℕ
length_of g name = sequence_length g (unwrap_or (name_index g name) 0)

-- whether the columns have a fault: one of a record
abbrev pub has_fault : Sequences → ℕ → List (List ℕ) → Fault → Bool
has_fault g width cs fault.Columns = not (length cs == width)
has_fault g width cs fault.UnknownSeq = is_none (name_index g (column cs 0))
has_fault g width cs fault.StartNumber = is_none (number (column cs 1))
has_fault g width cs fault.StopNumber = is_none (number (column cs 2))
has_fault g width cs fault.Order = nat_le (number_in (column cs 2)) (number_in (column cs 1))
has_fault g width cs fault.PastEnd = nat_lt (length_of g (column cs 0)) (number_in (column cs 2))
has_fault g width cs fault.Name = nat_le 4 width && bad_text (column cs 3)
has_fault g width cs fault.Score = nat_le 5 width && bad_text (column cs 4)
has_fault g width cs fault.Strand = nat_le 6 width && is_none (strand_of (column cs 5))
has_fault g width cs other = false

-- the faults, in the order in which they are reported
abbrev pub faults : List Fault
faults = fault.Columns ∷ fault.UnknownSeq ∷ fault.StartNumber ∷ fault.StopNumber ∷ fault.Order ∷ fault.PastEnd ∷ fault.Name ∷ fault.Score ∷ fault.Strand ∷ []

-- the record of columns that have no fault
abbrev pub feature : Sequences → ℕ → List (List ℕ) → RecordValue
feature g width cs = record {
  seq = unwrap_or (name_index g (column cs 0)) 0;
  start = number_in (column cs 1);
  stop = number_in (column cs 2);
  name = column cs 3;
  score = column cs 4;
  strand = strand_of (column cs 5);
  width = width;
}

-- the first fault of columns, or else their record
abbrev pub read_columns : Sequences → ℕ → List (List ℕ) → Result RecordValue Fault
read_columns g width cs = unless_fault (find (has_fault g width cs) faults) (Ok (feature g width cs))

-- the line's first fault, or else its record
abbrev pub read : Sequences → ℕ → List ℕ → Result RecordValue Fault
read g width line = read_columns g width (columns line)

-- a record of this width may have this name, score and strand
pub record AreSoundColumns (width : ℕ) (name score : List ℕ) (strand : Option Strand) : Type 0 where
  pub name_good : 4 ≤ width → bad_text name ≡ false
  pub score_good : 5 ≤ width → bad_text score ≡ false
  pub strand_good : 6 ≤ width → IsSome strand

-- the rank is that of a sequence, and the stop is within it
abbrev pub IsWithin : Sequences → ℕ → ℕ → Type 0
IsWithin g rank stop = (rank < length g) × (stop ≤ unwrap_or (length_at g rank) 0)

-- the record is on the genome: it has a base, and ends within its sequence
pub record IsOnGenome (g : Sequences) (r : RecordValue) : Type 0 where
  pub some : r.start < r.stop
  pub within : IsWithin g r.seq r.stop

-- the record is one of this width on this genome
pub record Fits (g : Sequences) (width : ℕ) (r : RecordValue) : Type 0 where
  pub width_is : r.width ≡ width
  pub is_placed : IsOnGenome g r
  pub beside : AreSoundColumns width r.name r.score r.strand
