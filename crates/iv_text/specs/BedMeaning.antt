-- What BED files mean, line by line: a value if no line has a cause to refuse it, else the first fault.
use Rattle.std.specs.Prelude.{ℕ, ◌++◌, nat_le, not, Bool, false, cond, List, [], ◌∷◌, Option, None, length, map, filter, find, slice_get, option_map, unwrap_or}
use Rattle.iv_lines.specs.Fields.{columns}
use Rattle.iv_lines.specs.Genome.{Sequences}
use Rattle.iv_lines.specs.RecordValue.{RecordValue}
use Rattle.iv_lines.specs.Read.{has_fault, faults, feature}
use Rattle.iv_text.specs.BedFile.{is_skipped_line, is_width, Bed}
use Rattle.iv_lines.specs.declared.fault.LoadCause.{LoadCause}
use Rattle.iv_lines.specs.declared.fault.LoadCause.TheVariants as cause

-- the lines that have a record
abbrev pub record_lines : List (List ℕ) → List (List ℕ)
record_lines lines = filter (λ line. not (is_skipped_line line)) lines

-- the width of lines: the number of columns of the first that has a record
abbrev pub first_width : List (List ℕ) → Option ℕ
first_width lines = option_map (λ line. length (columns line)) (slice_get (record_lines lines) 0)

-- the records of lines, all of that width
abbrev pub records_of : Sequences → List (List ℕ) → List RecordValue
records_of g lines = map (λ line. feature g (unwrap_or (first_width lines) 0) (columns line)) (record_lines lines)

-- the BED file of lines; if none has a record, its width is the one handed in
abbrev pub bed_from : Sequences → ℕ → List (List ℕ) → Bed
bed_from g empty lines = record { width = unwrap_or (first_width lines) empty; records = records_of g lines }

-- the width for a line after these lines: theirs, or the number of its own columns if none of them has a record
abbrev pub width_after : List (List ℕ) → List ℕ → ℕ
width_after before line = unwrap_or (first_width before) (length (columns line))

-- whether a line after these lines has a cause: the width isn't 3 to 6, its record has a fault, or there are as many records as the limit
abbrev pub has_row_cause : Sequences → ℕ → List (List ℕ) → List ℕ → LoadCause → Bool
has_row_cause g limit before line cause.Columns = not (is_width (width_after before line))
has_row_cause g limit before line (cause.Record f) = has_fault g (width_after before line) (columns line) f
has_row_cause g limit before line cause.TooMany = nat_le limit (length (records_of g before))
has_row_cause g limit before line other = false

-- these causes, in the order in which they are reported
abbrev pub row_causes : List LoadCause
row_causes = cause.Columns ∷ (map cause.Record faults ++ cause.TooMany ∷ [])

-- the first cause of a line after these lines, unless it has no record
abbrev pub record_cause : Sequences → ℕ → List (List ℕ) → List ℕ → Option LoadCause
record_cause g limit before line = cond (is_skipped_line line) None (find (has_row_cause g limit before line) row_causes)
