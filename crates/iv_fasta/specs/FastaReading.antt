-- A FASTA file that is read in pieces: what is held of its sequences, and what is known of it after some of its bytes.
use Rattle.std.specs.Prelude.{ℕ, ◌+◌, ◌++◌, ◌==◌, ◌&&◌, ◌||◌, nat_lt, Bool, true, false, not, cond, List, [], ◌∷◌, Option, None, Some, Result, Ok, Err, length, map, find, slice_get}
use Rattle.std.specs.List.{list_any}
use Rattle.std.specs.Map.{lookup}
use Rattle.std.specs.Option.{is_some, option_map, unwrap_or}
use Rattle.std.specs.Str.{bytes_eq}
use Rattle.iv_lines.specs.Chains.{if_ok, after_all}
use Rattle.iv_lines.specs.Genome.{Sequences}
use Rattle.iv_lines.specs.GenomeFile.{bad_name}
use Rattle.iv_lines.specs.Lines.{lines, begins_with}
use Rattle.iv_lines.specs.Named.{name_index}
use Rattle.iv_lines.specs.Read.{length_of}
use Rattle.iv_lines.specs.declared.fault.LoadCause.{LoadCause}
use Rattle.iv_lines.specs.declared.fault.LoadCause.TheVariants as cause
use Rattle.iv_lines.specs.declared.fault.LoadFault.{LoadFault}
use Rattle.iv_fasta.specs.Fasta.{Bases, header_name, header_sign}

-- which sequences are wanted, by rank; all if it isn't said
abbrev pub Wanted : Type 0
Wanted = Option (List Bool)

-- the sequence of this rank is wanted
abbrev pub is_wanted : Wanted → ℕ → Bool
is_wanted None seq = true
is_wanted (Some ranks) seq = unwrap_or (slice_get ranks seq) false

-- these bases, of which the first are those of this rank, without those of the sequences that aren't wanted
abbrev pub only_from : Wanted → ℕ → Bases → Bases
only_from wanted rank [] = []
only_from wanted rank (bases ∷ rest) = cond (is_wanted wanted rank) bases None ∷ only_from wanted (rank + 1) rest

-- the bases of the wanted sequences, by rank
abbrev pub only : Wanted → Bases → Bases
only wanted fasta = only_from wanted 0 fasta

-- the bases of the wanted sequences of a file, or its fault
abbrev pub only_or_fault : Wanted → Result Bases LoadFault → Result Bases LoadFault
only_or_fault wanted file = if_ok file (λ fasta. Ok (only wanted fasta))

-- what is held under a name: the number of its header's line, how many bases it has, and these, if they are held
pub record Summary : Type 0 where
  pub line : ℕ
  pub count : ℕ
  pub bases : List ℕ

-- the sequences so far, each under its name, in the order of the file
abbrev pub Summaries : Type 0
Summaries = List (List ℕ × Summary)

-- the sequences so far, and whether the bases of the last one are held
pub record Draft : Type 0 where
  pub sequences : Summaries
  pub holds : Bool

-- the sequences with these bases at the end of the last one: they are counted, and maybe held
abbrev pub with_part : Bool → Summaries → List ℕ → Summaries
with_part holds [] bases = []
with_part holds (s ∷ []) bases = (s.0, record { line = s.1.line; count = s.1.count + length bases; bases = s.1.bases ++ cond holds bases [] }) ∷ []
with_part holds (s ∷ next ∷ rest) bases = s ∷ with_part holds (next ∷ rest) bases

-- the bases of a sequence of this name are held: the genome names it, and it is wanted
abbrev pub is_held : Sequences → Wanted → List ℕ → Bool
is_held g wanted name = elim (name_index g name) [ None ↦ false | Some seq ↦ is_wanted wanted seq ]

-- what is held after the rest of a line of bases, or its fault
abbrev pub with_rest : Draft → List ℕ → Result Draft LoadCause
with_rest d line =
    cond (list_any (λ b. nat_lt b 33 || nat_lt 126 b) line) (Err cause.Base)
    (Ok (record { sequences = with_part d.holds d.sequences line; holds = d.holds }))

-- what is held after the header of this name, which is in the line of this number, or its fault
abbrev pub with_header : Sequences → Wanted → ℕ → Draft → List ℕ → Result Draft LoadCause
with_header g wanted n d name =
    cond (bad_name name) (Err cause.Name)
    (cond (is_some (name_index d.sequences name)) (Err cause.Repeated)
    (Ok (record { sequences = d.sequences ++ (name, record { line = n; count = 0; bases = [] }) ∷ []; holds = is_held g wanted name })))

-- what is held after one more line, which has this number, or its first fault
unfoldable pub after_line : Sequences → Wanted → ℕ → Draft → List ℕ → Result Draft LoadCause
after_line g wanted n d line =
    cond (length line == 0) (Ok d)
    (cond (begins_with header_sign line) (with_header g wanted n d (header_name line))
    (cond (length d.sequences == 0) (Err cause.BasesFirst) (with_rest d line)))

-- a file of which some bytes were read: the number of its next line, or of the line of bases in whose middle they end; which sequences
-- are wanted; what is held; and how many bases there were
pub record Progress : Type 0 where
  pub number : ℕ
  pub is_open : Bool
  pub wanted : Wanted
  pub draft : Draft
  pub count : ℕ

-- what is held after lines of which the first has the number n, or the first fault
abbrev pub after_lines : Sequences → Wanted → ℕ → Draft → List (List ℕ) → Result Draft LoadFault
after_lines g wanted n d lines = after_all (after_line g wanted) n d lines

-- the same, but the first of them is the rest of a line of bases
abbrev pub after_rest : Sequences → Wanted → ℕ → Draft → List (List ℕ) → Result Draft LoadFault
after_rest g wanted n d [] = Ok d
after_rest g wanted n d (line ∷ lines) = elim (with_rest d line) [ Ok more ↦ after_lines g wanted (n + 1) more lines | Err c ↦ Err (record { line = n; cause = c }) ]

-- what is held once this remaining text is read, or the first fault of a line
abbrev pub said : Sequences → Progress → List ℕ → Result Draft LoadFault
said g p text = cond p.is_open (after_rest g p.wanted p.number p.draft (lines text)) (after_lines g p.wanted p.number p.draft (lines text))

-- a sequence that the genome names has another number of bases than the genome says
abbrev pub has_other_count : Sequences → List ℕ × Summary → Bool
has_other_count g s = is_some (name_index g s.0) && not (s.1.count == length_of g s.0)

-- the bases that are held of the genome's sequences, by rank
abbrev pub held_by_rank : Sequences → Summaries → Bases
held_by_rank g found = map (λ s. option_map (λ (f : Summary). f.bases) (lookup (bytes_eq s.0) found)) g

-- the bases of the wanted sequences, if all lengths are those of the genome; else the fault of the first sequence of a wrong length
abbrev pub ended : Sequences → Wanted → Summaries → Result Bases LoadFault
ended g wanted found = elim (find (has_other_count g) found) [
  | None ↦ Ok (only wanted (held_by_rank g found))
  | Some s ↦ Err (record { line = s.1.line; cause = cause.WrongLength })
]

-- a file of which some bytes were read, and those of them that wait for the end of their line
pub record Reading : Type 0 where
  pub read : Progress
  pub tail : List ℕ

-- the bases of the wanted sequences once these remaining bytes are read, or the file's first fault
abbrev pub read_on : Sequences → Reading → List ℕ → Result Bases LoadFault
read_on g r more = if_ok (said g r.read (r.tail ++ more)) (λ d. ended g r.read.wanted d.sequences)

-- more than the number of lines that were read and of bases in them, and at most one more than the number of bytes
abbrev pub size_of : Reading → ℕ
size_of r = r.read.number + r.read.count + length r.tail
