-- What is held of a FASTA file while it is read: the bases of the sequences that are held, all in one list.
use Rattle.std.specs.Prelude.{◌≡◌, ◌≢◌, ◌≤◌, ◌<◌, ℕ, ◌+◌, ◌-◌, ◌++◌, ◌==◌, ◌&&◌, Bool, true, false, not, cond, List, [], ◌∷◌, Option, None, Some, Result, Ok, Err, IfOk, length, drop, slice_range, slice_index}
use Rattle.std.specs.List.{list_any}
use Rattle.std.specs.Coded.{×_prop, le_prop}
use Rattle.std.specs.Option.{is_some}
use Rattle.iv_lines.specs.Chains.{after_all}
use Rattle.iv_lines.specs.Genome.{Sequences}
use Rattle.iv_lines.specs.GenomeFile.{bad_name}
use Rattle.iv_lines.specs.Named.{name_index}
use Rattle.iv_fasta.specs.Fasta.{Found, with_bases, after_fasta_line}
use Rattle.iv_fasta.specs.FastaReading.{Progress, Summaries, Summary, Wanted, said, with_part}
use Rattle.iv_fasta.specs.Inside.Fasta.{is_no_base}
use Rattle.iv_fasta.specs.Inside.BaseRanges.{bases_at}
use Rattle.iv_fasta.specs.declared.held_sequences.BaseRange.{BaseRange}
use Rattle.iv_fasta.specs.declared.held_sequences.Header.{Header}
use Rattle.iv_lines.specs.declared.fault.LoadCause.{LoadCause}
use Rattle.iv_lines.specs.declared.fault.LoadCause.TheVariants as cause
use Rattle.iv_lines.specs.declared.fault.LoadFault.{LoadFault}

-- the sequences with one more, or the fault of its header, which has this number
abbrev pub with_sequence : ℕ → Found → List ℕ → Result Found LoadCause
with_sequence n found name =
    cond (bad_name name) (Err cause.Name)
    (cond (is_some (name_index found name)) (Err cause.Repeated)
    (Ok (found ++ (name, record { line = n; bases = [] }) ∷ [])))

-- the sequences after a line of bases, or its first fault
abbrev pub with_base_line : Found → List ℕ → Result Found LoadCause
with_base_line found line =
    cond (length found == 0) (Err cause.BasesFirst)
    (cond (list_any is_no_base line) (Err cause.Base)
    (Ok (with_bases found line)))

-- the sequences after lines of which the first has the number n, or the first fault
abbrev pub after_fasta_lines : ℕ → Found → List (List ℕ) → Result Found LoadFault
after_fasta_lines n found lines = after_all after_fasta_line n found lines

-- headers, each under its name, in the order of the file
abbrev pub NamedHeaders : Type 0
NamedHeaders = List (List ℕ × Header)

-- a number of the first header, or else this one
abbrev pub first_number : (Header → ℕ) → NamedHeaders → ℕ → ℕ
first_number number [] last = last
first_number number (h ∷ headers) last = number h.1

-- the same of a header, if there is one
abbrev pub number_at : (Header → ℕ) → Option (List ℕ × Header) → ℕ → ℕ
number_at number None last = last
number_at number (Some h) last = number h.1

-- the sequences of these headers: each holds the bases from its start to the next one's, and has as many as were counted from it to
-- the next one
abbrev pub cut : NamedHeaders → List ℕ → ℕ → Summaries
cut [] bases count = []
cut (h ∷ headers) bases count =
    (h.0, record { line = h.1.line; count = first_number (λ h. h.before) headers count - h.1.before; bases = slice_range bases h.1.start (first_number (λ h. h.start) headers (length bases)) })
    ∷ cut headers bases count

-- the sequence whose header is in this line, which has so many bases, and of which those in this range are held
abbrev pub sequence_at : List ℕ → ℕ → ℕ → BaseRange → Summary
sequence_at bases line count range = record { line = line; count = count; bases = bases_at bases range }

-- a number of the headers is `low` or more, none is less than that of the header before, and none is more than `high`
abbrev pub AreRising : (Header → ℕ) → ℕ → NamedHeaders → ℕ → Type 0
AreRising number low [] high = low ≤ high
AreRising number low (h ∷ headers) high = (low ≤ number h.1) × AreRising number (number h.1) headers high

pub AreRising-prop : (number : Header → ℕ) (low : ℕ) (headers : NamedHeaders) (high : ℕ) → IsProp (AreRising number low headers high)
AreRising-prop number low [] high = le_prop
AreRising-prop number low (h ∷ headers) high = ×_prop le_prop (AreRising-prop number (number h.1) headers high)

-- a file of which no byte was read
abbrev pub begun_with : Wanted → Progress
begun_with wanted = record { number = 1; is_open = false; wanted = wanted; draft = record { sequences = []; holds = false }; count = 0 }

-- bases may not come here, because no header came before
abbrev pub lacks_a_header : Progress → Bool
lacks_a_header p = not p.is_open && (length p.draft.sequences == 0)

-- why a line is refused whose next byte is no base
abbrev pub refusal_of : Progress → LoadCause
refusal_of p = cond (lacks_a_header p) cause.BasesFirst cause.Base

-- a line has ended
abbrev pub with_line_end : Progress → Progress
with_line_end p = record { number = p.number + 1; is_open = false; wanted = p.wanted; draft = p.draft; count = p.count }

-- bases of a line were read
abbrev pub with_bases_read : Progress → List ℕ → Progress
with_bases_read p bases = record {
  number = p.number;
  is_open = true;
  wanted = p.wanted;
  draft = record { sequences = with_part p.draft.holds p.draft.sequences bases; holds = p.draft.holds };
  count = p.count + length bases;
}

-- the text begins with a byte of a line: neither with the end of one nor with a CR that could be a part of it
abbrev pub IsInLine : List ℕ → Type 0
IsInLine text = (0 < length text) × (slice_index text 0 ≢ 10) × (slice_index text 0 ≢ 13)

-- the bytes of a text that were taken, if so many were, are no more than it has, and no fewer than the lines and bases that were counted
-- in them; and the same sequences are wanted
abbrev pub TakesBytes : {E : Type 0} → Progress → Progress → List ℕ → Result ℕ E → Type 0
TakesBytes old new text taken = IfOk taken (λ size. (size ≤ length text) × (new.number + new.count ≤ old.number + old.count + size)) × (new.wanted ≡ old.wanted)

-- the first so many bytes of a text were read, whatever comes after it, or if it is the last, nothing
abbrev pub Reads : Sequences → Progress → Progress → List ℕ → ℕ → Bool → Type 0
Reads g old new text size is_last = (more : List ℕ) → (is_last ≡ true → more ≡ []) → said g old (text ++ more) ≡ said g new (drop size text ++ more)

-- the text has a fault in its first line, and this is its cause
abbrev pub Refuses : Sequences → Progress → List ℕ → LoadCause → Bool → Type 0
Refuses g old text c is_last = (more : List ℕ) → (is_last ≡ true → more ≡ []) → said g old (text ++ more) ≡ Err (record { line = old.number; cause = c })
