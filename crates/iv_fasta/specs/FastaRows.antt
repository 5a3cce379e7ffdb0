-- The rows of getfasta.
use Rattle.std.specs.Prelude.{ℕ, ◌++◌, List, [], ◌∷◌, Option, None, Some, map, reverse, codes, decimal, slice_range, if◌then◌else◌}
use Rattle.iv_lines.specs.Genome.{Sequences, sequence_name}
use Rattle.iv_lines.specs.RecordValue.{RecordValue, strand_byte}
use Rattle.iv_lines.specs.declared.record_ref.Strand.{Strand}
use Rattle.iv_lines.specs.declared.record_ref.Strand.TheVariants.{Minus}
use Rattle.iv_fasta.specs.Complement.{complement}
use Rattle.iv_fasta.specs.Fasta.{Bases, bases_of}
use Rattle.iv_fasta.specs.declared.rows.FastaOutput.{FastaOutput}

-- a strand in round brackets, nothing if a record has none
abbrev pub bracketed : Option Strand → List ℕ
bracketed None = []
bracketed (Some s) = codes "(" ++ strand_byte s ∷ codes ")"

-- the strand of a record if strands are shown
abbrev pub shown_strand : FastaOutput → RecordValue → Option Strand
shown_strand output r = if output.stranded then r.strand else None

-- the head of a record: its sequence, its interval, and the strand if it is shown
abbrev pub head : FastaOutput → Sequences → RecordValue → List ℕ
head output g r = sequence_name g r.seq ++ codes ":" ++ decimal r.start ++ codes "-" ++ decimal r.stop ++ bracketed (shown_strand output r)

-- the bases that are shown of those that a record covers, by the strand that is shown of it: on `-` they are read backwards, and each
-- is its complement
abbrev pub shown_bases : Option Strand → List ℕ → List ℕ
shown_bases (Some Minus) bases = map complement (reverse bases)
shown_bases other bases = bases

-- a head and its bases: on one line, separated by a TAB; or each on a line of its own, and `>` before the head
abbrev pub framed : FastaOutput → List ℕ → List ℕ → List ℕ
framed output heading bases =
    if output.tab then heading ++ codes "\t" ++ bases ++ codes "\n"
    else codes ">" ++ heading ++ codes "\n" ++ bases ++ codes "\n"

-- the row of a record: nothing if the file lacks its sequence
abbrev pub fasta_rows : FastaOutput → Sequences → Bases → RecordValue → List ℕ
fasta_rows output g fasta r = elim (bases_of fasta r.seq) [
  | None ↦ []
  | Some bases ↦ framed output (head output g r) (shown_bases (shown_strand output r) (slice_range bases r.start r.stop))
]
