-- A FASTA file of which some bytes are not read yet.
use Rattle.std.specs.Prelude.{◌≡◌, ◌≤◌, ◌⊎◌, ℕ, ◌+◌, ◌++◌, List, Result, Ok, Err, length}
use Rattle.iv_lines.specs.Genome.{Sequences, AreRanked}
use Rattle.iv_lines.specs.declared.fault.LoadCause.TheVariants as cause
use Rattle.iv_lines.specs.declared.fault.LoadFault.{LoadFault}
use Rattle.iv_fasta.specs.Fasta.{fasta_of}
use Rattle.iv_fasta.specs.FastaReading.{Reading, Wanted, only_or_fault, read_on, size_of}

-- what is known of a file once these bytes of it are read, on a genome in which no name occurs twice: what is held of them and the
-- remaining bytes, whatever these are, give the bases of the wanted sequences of the whole file; or the fault is out of memory, or that
-- of the file, whatever remains
abbrev pub FastaSoFar : Wanted → Sequences → List ℕ → Result Reading LoadFault → Type 0
FastaSoFar wanted g front (Ok r) = (size_of r ≤ 1 + length front) × ((more : List ℕ) → AreRanked g → read_on g r more ≡ only_or_fault wanted (fasta_of g (front ++ more)))
FastaSoFar wanted g front (Err f) = (f ≡ record { line = 0; cause = cause.Memory }) ⊎ ((more : List ℕ) → AreRanked g → only_or_fault wanted (fasta_of g (front ++ more)) ≡ Err f)
