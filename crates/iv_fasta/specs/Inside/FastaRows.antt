-- The parts of a row of getfasta.
use Rattle.std.specs.Prelude.{ℕ, ◌++◌, List, [], Option, None, Some, map, reverse, codes, slice_range, if◌then◌else◌}
use Rattle.iv_lines.specs.Genome.{Sequences}
use Rattle.iv_lines.specs.RecordValue.{RecordValue}
use Rattle.iv_fasta.specs.declared.rows.FastaOutput.{FastaOutput}
use Rattle.iv_fasta.specs.Complement.{complement}
use Rattle.iv_fasta.specs.FastaRows.{framed, head, shown_bases, shown_strand}

-- the opposite strand of some bases: they are read backwards, and each is its complement
abbrev pub opposite : List ℕ → List ℕ
opposite bases = map complement (reverse bases)

-- the row of a record beside the bases of its sequence: nothing if there are none
abbrev pub row_beside : FastaOutput → Sequences → RecordValue → Option (List ℕ) → List ℕ
row_beside output g r None = []
row_beside output g r (Some bases) = framed output (head output g r) (shown_bases (shown_strand output r) (slice_range bases r.start r.stop))

-- what is before the bases of a row
abbrev pub front : FastaOutput → Sequences → RecordValue → List ℕ
front output g r =
    (if output.tab then [] else codes ">") ++ head output g r ++ (if output.tab then codes "\t" else codes "\n")
