-- The parts of a row.
use Rattle.std.proofs.Common.{◌≡◌, ℕ, ◌++◌, Bool, true, false, List, [], Option, None, Some, sym, ◌∙◌, ap, append_assoc}
use Rattle.std.proofs.lemmas.Option.{same_Some}
use Rattle.std.specs.Prelude.{codes, if◌then◌else◌}
use Rattle.std.specs.List.{slice_range}
use Rattle.std.specs.Option.{option_map}
use Rattle.iv_lines.specs.Genome.{Sequences}
use Rattle.iv_lines.specs.RecordValue.{RecordValue}
use Rattle.iv_fasta.specs.Fasta.{Bases, bases_of}
use Rattle.iv_fasta.specs.FastaReading.{Wanted, is_wanted, only}
use Rattle.iv_fasta.proofs.SummaryLemmas.{bases-wanted}
use Rattle.iv_fasta.specs.FastaRows.{head, shown_strand, shown_bases, framed, fasta_rows}
use Rattle.iv_fasta.specs.Inside.FastaRows.{front, row_beside}
use Rattle.iv_fasta.specs.declared.rows.FastaOutput.{FastaOutput}

framed-by : (tab : Bool) (heading bases : List ℕ)
    → (if tab then heading ++ codes "\t" ++ bases ++ codes "\n" else codes ">" ++ heading ++ codes "\n" ++ bases ++ codes "\n")
    ≡ ((if tab then [] else codes ">") ++ heading ++ (if tab then codes "\t" else codes "\n")) ++ (bases ++ codes "\n")
framed-by true heading bases = simp append_assoc
framed-by false heading bases = simp append_assoc

row-there : (output : FastaOutput) (g : Sequences) (r : RecordValue) (part : List ℕ) (o : Option (List ℕ)) → Some part ≡ option_map (λ bases. slice_range bases r.start r.stop) o
    → row_beside output g r o ≡ front output g r ++ (shown_bases (shown_strand output r) part ++ codes "\n")
row-there output g r part None there = cc
row-there output g r part (Some bases) there =
    ap (λ (l : List ℕ). framed output (head output g r) (shown_bases (shown_strand output r) l)) (sym (same_Some part (slice_range bases r.start r.stop) there))
    ∙ framed-by output.tab (head output g r) (shown_bases (shown_strand output r) part)

-- the row of a record whose bases are these
pub row-is : (output : FastaOutput) (g : Sequences) (fasta : Bases) (r : RecordValue) (part : List ℕ) → Some part ≡ option_map (λ bases. slice_range bases r.start r.stop) (bases_of fasta r.seq)
    → fasta_rows output g fasta r ≡ front output g r ++ (shown_bases (shown_strand output r) part ++ codes "\n")
row-is output g fasta r part there = row-there output g r part (bases_of fasta r.seq) there

-- a record of a wanted sequence has the same row if only the wanted sequences are held
pub row-wanted : (wanted : Wanted) (output : FastaOutput) (g : Sequences) (fasta : Bases) (r : RecordValue) → is_wanted wanted r.seq ≡ true → fasta_rows output g (only wanted fasta) r ≡ fasta_rows output g fasta r
row-wanted wanted output g fasta r is = ap (row_beside output g r) (bases-wanted wanted fasta r.seq is)
