-- What a FASTA file means, line by line: its sequences if no line has a cause to refuse it, else the first fault.
use Rattle.std.specs.Prelude.{◌≡◌, ℕ, ◌+◌, ◌==◌, ◌&&◌, Bool, false, not, cond, List, [], ◌∷◌, Option, None, Some, Result, Ok, Err, length, map, find}
use Rattle.std.specs.List.{list_any, concat}
use Rattle.std.specs.Map.{lookup}
use Rattle.std.specs.Option.{is_some, option_map}
use Rattle.std.specs.Str.{bytes_eq}
use Rattle.iv_lines.specs.Genome.{Sequences}
use Rattle.iv_lines.specs.GenomeFile.{bad_name}
use Rattle.iv_lines.specs.Lines.{begins_with}
use Rattle.iv_lines.specs.Named.{name_index}
use Rattle.iv_lines.specs.Read.{length_of}
use Rattle.iv_lines.specs.declared.fault.LoadCause.{LoadCause}
use Rattle.iv_lines.specs.declared.fault.LoadCause.TheVariants as cause
use Rattle.iv_lines.specs.declared.fault.LoadFault.{LoadFault}
use Rattle.iv_fasta.specs.Fasta.{Bases, Found, Stretch, header_sign, header_name, has_wrong_length}
use Rattle.iv_fasta.specs.Inside.Fasta.{is_no_base}

-- the genome names a sequence so, and gives it another number of bases
abbrev pub differs : Sequences → List ℕ → ℕ → Bool
differs g name count = is_some (name_index g name) && not (count == length_of g name)

-- the bases of the sequences that the genome names; others are left out
abbrev pub by_rank : Sequences → Found → Bases
by_rank g found = map (λ s. option_map (λ (f : Stretch). f.bases) (lookup (bytes_eq s.0) found)) g

-- the bases by rank, or the fault of the first sequence that has a wrong length: its line is the header's
abbrev pub with_lengths : Sequences → Found → Result Bases LoadFault
with_lengths g found = elim (find (has_wrong_length g) found) [ None ↦ Ok (by_rank g found) | Some s ↦ Err (record { line = s.1.line; cause = cause.WrongLength }) ]

-- the line is a header
abbrev pub is_header : List ℕ → Bool
is_header line = begins_with header_sign line

-- the lines before the next header
abbrev pub before_header : List (List ℕ) → List (List ℕ)
before_header [] = []
before_header (line ∷ lines) = cond (is_header line) [] (line ∷ before_header lines)

-- the sequences of lines of which the first has the number n: one for each header, with its name, the number of its line, and
-- the bases of the lines between it and the next header
abbrev pub sequences_from : ℕ → List (List ℕ) → Found
sequences_from n [] = []
sequences_from n (line ∷ lines) =
    cond (is_header line)
    ((header_name line, record { line = n; bases = concat (before_header lines) }) ∷ sequences_from (n + 1) lines)
    (sequences_from (n + 1) lines)

-- the sequences of the lines of a file
abbrev pub sequences_said : List (List ℕ) → Found
sequences_said lines = sequences_from 1 lines

-- whether a line after these lines has a cause: the name of a header is bad or came before; bases come before the first header, or a
-- byte is no base
abbrev pub has_line_cause : List (List ℕ) → List ℕ → LoadCause → Bool
has_line_cause before line cause.Name = is_header line && bad_name (header_name line)
has_line_cause before line cause.Repeated = is_header line && is_some (name_index (sequences_said before) (header_name line))
has_line_cause before line cause.BasesFirst = not (is_header line) && (length (sequences_said before) == 0)
has_line_cause before line cause.Base = not (is_header line) && list_any is_no_base line
has_line_cause before line other = false

-- these causes, in the order in which they are reported
abbrev pub line_causes : List LoadCause
line_causes = cause.Name ∷ cause.Repeated ∷ cause.BasesFirst ∷ cause.Base ∷ []

-- the first cause of a line after these lines, unless it is empty
abbrev pub line_cause : List (List ℕ) → List ℕ → Option LoadCause
line_cause before line = cond (length line == 0) None (find (has_line_cause before line) line_causes)

-- no sequence that the genome names has another length than the genome says
abbrev pub HaveRightLengths : Sequences → Found → Type 0
HaveRightLengths g found = find (has_wrong_length g) found ≡ None

-- the fault is that of the first sequence that the genome names and that has another length: the number of its header's line
pub record IsFirstWrongLength (g : Sequences) (found : Found) (f : LoadFault) : Type 0 where
  pub wrong : List ℕ × Stretch
  pub first : find (has_wrong_length g) found ≡ Some wrong
  pub fault : f ≡ record { line = wrong.1.line; cause = cause.WrongLength }
