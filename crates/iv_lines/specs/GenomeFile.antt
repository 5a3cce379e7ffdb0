-- The genome of a genome file, or its first fault.
use Rattle.std.specs.Prelude.{ℕ, ◌++◌, ◌==◌, ◌||◌, nat_le, nat_lt, Bool, false, cond, List, [], ◌∷◌, Result, Ok, length, find, codes}
use Rattle.std.specs.List.{list_any}
use Rattle.std.specs.Option.{is_some, is_none}
use Rattle.std.specs.Str.{bytes_eq}
use Rattle.iv_lines.specs.Bytes.{nul, carriage_return, number_sign}
use Rattle.iv_lines.specs.Chains.{unless_fault, after_all}
use Rattle.iv_lines.specs.Fields.{columns}
use Rattle.iv_lines.specs.Lines.{begins_with, lines}
use Rattle.iv_lines.specs.Number.{number}
use Rattle.iv_lines.specs.Genome.{Sequences, most_length}
use Rattle.iv_lines.specs.Named.{name_index}
use Rattle.iv_lines.specs.Read.{column, number_in}
use Rattle.iv_lines.specs.declared.fault.LoadCause.{LoadCause}
use Rattle.iv_lines.specs.declared.fault.LoadCause.TheVariants as cause
use Rattle.iv_lines.specs.declared.fault.LoadFault.{LoadFault}

-- a line without a sequence: an empty one, a comment, the line that names the columns
abbrev pub is_skipped : List ℕ → Bool
is_skipped line = (length line == 0) || begins_with number_sign line || bytes_eq line (codes "chrom\tsize")

-- a name is refused: it is empty, or holds CR or NUL
abbrev pub bad_name : List ℕ → Bool
bad_name bs = (length bs == 0) || list_any (λ b. b == carriage_return || b == nul) bs

-- whether the columns of a line have a fault, after the sequences before
abbrev pub has_cause : Sequences → List (List ℕ) → LoadCause → Bool
has_cause g cs cause.Columns = nat_lt (length cs) 2
has_cause g cs cause.Name = bad_name (column cs 0)
has_cause g cs cause.Length = is_none (number (column cs 1)) || nat_lt most_length (number_in (column cs 1))
has_cause g cs cause.Repeated = is_some (name_index g (column cs 0))
has_cause g cs cause.TooMany = nat_le 1000000 (length g)
has_cause g cs other = false

-- the causes, in the order in which they are reported
abbrev pub causes : List LoadCause
causes = cause.Columns ∷ cause.Name ∷ cause.Length ∷ cause.Repeated ∷ cause.TooMany ∷ []

-- the sequence of a line that has no fault
abbrev pub sequence : List (List ℕ) → List ℕ × ℕ
sequence cs = (column cs 0, number_in (column cs 1))

-- the sequences after one more line, or its first fault
unfoldable pub after_line : Sequences → List ℕ → Result Sequences LoadCause
after_line g line =
    cond (is_skipped line) (Ok g)
    (unless_fault (find (has_cause g (columns line)) causes) (Ok (g ++ (column (columns line) 0, number_in (column (columns line) 1)) ∷ [])))

-- the genome of a text, or its first fault
abbrev pub genome_of : List ℕ → Result Sequences LoadFault
genome_of text = after_all (λ n. after_line) 1 [] (lines text)
