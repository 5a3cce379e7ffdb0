-- Files, complements and rows worked by hand.
use Rattle.std.proofs.Common.{◌≡◌, ℕ, List, [], ◌∷◌, true, false, Ok, Err, Some, None, map, refl}
use Rattle.std.specs.Fmt.{digits}
use Rattle.std.specs.List.{flat_map}
use Rattle.std.specs.Prelude.{codes}
use Rattle.iv_lines.specs.Genome.{Sequences}
use Rattle.iv_lines.specs.RecordValue.{RecordValue}
use Rattle.iv_lines.specs.declared.fault.LoadCause.TheVariants as cause
use Rattle.iv_lines.specs.declared.record_ref.Strand.{Strand}
use Rattle.iv_lines.specs.declared.record_ref.Strand.TheVariants.{Plus, Minus, Dot}
use Rattle.iv_fasta.specs.Complement.{complement}
use Rattle.iv_fasta.specs.Fasta.{Bases, after_fasta_line, fasta_of}
use Rattle.iv_fasta.specs.FastaRows.{fasta_rows}

pub complements : map complement (codes "ACGTURYKMBVDHSWNacgn-*") ≡ codes "TGCAAYRMKVBHDSWNtgcn-*"
complements = refl

-- a genome of which a FASTA file has the first sequence
abbrev g : Sequences
g = (codes "s", 10) ∷ (codes "u", 5) ∷ []

-- lines are joined, the name ends at a blank, and what the genome lacks is left out
pub joined-file : fasta_of g (codes ">s test\nACGT\n\nNacg\r\ntR\n>elsewhere\tx\nAC") ≡ Ok (Some (codes "ACGTNacgtR") ∷ None ∷ [])
unfolding after_fasta_line
joined-file = refl

pub bases-first : fasta_of g (codes "\nACGT\n") ≡ Err (record { line = 2; cause = cause.BasesFirst })
unfolding after_fasta_line
bases-first = refl

pub no-name : fasta_of g (codes "> x\n") ≡ Err (record { line = 1; cause = cause.Name })
unfolding after_fasta_line
no-name = refl

pub bad-base : fasta_of g (codes ">s\nAC GT\n") ≡ Err (record { line = 2; cause = cause.Base })
unfolding after_fasta_line
bad-base = refl

-- the line of a wrong length is the header's
pub wrong-length : fasta_of g (codes ">q\nA\n>s\nACGT\n") ≡ Err (record { line = 3; cause = cause.WrongLength })
unfolding after_fasta_line
wrong-length = refl

-- a name that the genome lacks is repeated, and reported before a wrong length
pub repeated : fasta_of g (codes ">s\n>q\nA\n>q") ≡ Err (record { line = 4; cause = cause.Repeated })
unfolding after_fasta_line
repeated = refl

abbrev fasta : Bases
fasta = Some (codes "ACGTNacgtR") ∷ None ∷ []

abbrev on : Strand → ℕ → ℕ → ℕ → RecordValue
on strand seq start stop = record { seq = seq; start = start; stop = stop; name = codes "n"; score = codes "0"; strand = Some strand; width = 6 }

-- the FASTA file lacks the sequence of the last one
abbrev records : List RecordValue
records = on Minus 0 2 6 ∷ on Dot 0 2 6 ∷ on Minus 0 9 10 ∷ on Plus 1 0 5 ∷ []

pub plain-rows : flat_map (fasta_rows (record { stranded = false; tab = false }) g fasta) records ≡ codes ">s:2-6\nGTNa\n>s:2-6\nGTNa\n>s:9-10\nR\n"
unfolding digits
plain-rows = refl

pub strand-rows : flat_map (fasta_rows (record { stranded = true; tab = false }) g fasta) records ≡ codes ">s:2-6(-)\ntNAC\n>s:2-6(.)\nGTNa\n>s:9-10(-)\nY\n"
unfolding digits
strand-rows = refl

pub tab-rows : flat_map (fasta_rows (record { stranded = true; tab = true }) g fasta) records ≡ codes "s:2-6(-)\ttNAC\ns:2-6(.)\tGTNa\ns:9-10(-)\tY\n"
unfolding digits
tab-rows = refl

-- a record without a strand has no brackets
pub bare-row : flat_map (fasta_rows (record { stranded = true; tab = true }) g fasta) (record { seq = 0; start = 0; stop = 4; name = []; score = []; strand = None; width = 3 } ∷ []) ≡ codes "s:0-4\tACGT\n"
unfolding digits
bare-row = refl
