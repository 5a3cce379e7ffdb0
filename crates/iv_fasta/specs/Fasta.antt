-- The bases of a FASTA file, or its first fault.
use Rattle.std.specs.Prelude.{◌≡◌, ℕ, ◌++◌, ◌==◌, ◌&&◌, ◌||◌, nat_lt, Bool, not, cond, List, [], ◌∷◌, Option, None, Some, Result, Ok, Err, length, map, find, drop, slice_get}
use Rattle.std.specs.List.{list_any, before_first}
use Rattle.std.specs.Map.{lookup}
use Rattle.std.specs.Option.{is_some, option_map, unwrap_or}
use Rattle.std.specs.Str.{bytes_eq}
use Rattle.iv_lines.specs.Bytes.{tab, space}
use Rattle.iv_lines.specs.Chains.{if_ok, after_all}
use Rattle.iv_lines.specs.Lines.{lines, begins_with}
use Rattle.iv_lines.specs.Named.{name_index}
use Rattle.iv_lines.specs.Genome.{Sequences, length_at}
use Rattle.iv_lines.specs.Read.{length_of}
use Rattle.iv_lines.specs.GenomeFile.{bad_name}
use Rattle.iv_lines.specs.declared.fault.LoadCause.{LoadCause}
use Rattle.iv_lines.specs.declared.fault.LoadFault.{LoadFault}
use Rattle.iv_lines.specs.declared.fault.LoadCause.TheVariants as cause

-- what is under a name: the number of its header's line, and its bases, joined over their lines
pub record Stretch : Type 0 where
  pub line : ℕ
  pub bases : List ℕ

-- the sequences of a FASTA file, each under its name, in the order of the file
abbrev pub Found : Type 0
Found = List (List ℕ × Stretch)

-- the sign `>`, with which a header begins
abbrev pub header_sign : ℕ
header_sign = 62

-- the name of a header: what is between `>` and the first space or TAB, or the end of the line
abbrev pub header_name : List ℕ → List ℕ
header_name line = before_first (λ b. b == space || b == tab) (drop 1 line)

-- the sequences with these bases at the end of the last one
abbrev pub with_bases : Found → List ℕ → Found
with_bases [] bases = []
with_bases (s ∷ []) bases = (s.0, record { line = s.1.line; bases = s.1.bases ++ bases }) ∷ []
with_bases (s ∷ next ∷ rest) bases = s ∷ with_bases (next ∷ rest) bases

-- the sequences after one more line, which has this number, or its first fault: an empty line is skipped, a header begins one more
-- sequence, and the bases of any other line, each a byte of 33 to 126, go to the last one
unfoldable pub after_fasta_line : ℕ → Found → List ℕ → Result Found LoadCause
after_fasta_line n found line =
    cond (length line == 0) (Ok found)
    (cond (begins_with header_sign line)
    (cond (bad_name (header_name line)) (Err cause.Name)
    (cond (is_some (name_index found (header_name line))) (Err cause.Repeated)
    (Ok (found ++ (header_name line, record { line = n; bases = [] }) ∷ []))))
    (cond (length found == 0) (Err cause.BasesFirst)
    (cond (list_any (λ b. nat_lt b 33 || nat_lt 126 b) line) (Err cause.Base)
    (Ok (with_bases found line)))))

-- a sequence that the genome names has another number of bases than the genome says
abbrev pub has_wrong_length : Sequences → List ℕ × Stretch → Bool
has_wrong_length g s = is_some (name_index g s.0) && not (length s.1.bases == length_of g s.0)

-- the bases of a genome's sequences, by rank: `None` if the file lacks the sequence
abbrev pub Bases : Type 0
Bases = List (Option (List ℕ))

-- the bases of a text for the sequences of a genome, or its first fault: if no line has one, that of the first sequence of a wrong
-- length, at the line of its header
abbrev pub fasta_of : Sequences → List ℕ → Result Bases LoadFault
fasta_of g text =
    if_ok (after_all after_fasta_line 1 [] (lines text)) (λ found. elim (find (has_wrong_length g) found) [
      | None ↦ Ok (map (λ s. option_map (λ (f : Stretch). f.bases) (lookup (bytes_eq s.0) found)) g)
      | Some s ↦ Err (record { line = s.1.line; cause = cause.WrongLength })
    ])

-- the bases of the sequence of this rank, if the file has it
abbrev pub bases_of : Bases → ℕ → Option (List ℕ)
bases_of fasta seq = unwrap_or (slice_get fasta seq) None

-- each sequence that the file has is as long as the genome says
abbrev pub HasLengthsOf : Sequences → Bases → Type 0
HasLengthsOf g fasta = (seq : ℕ) (bases : List ℕ) → bases_of fasta seq ≡ Some bases → length_at g seq ≡ Some (length bases)
