-- The rows of written views: those that arguments ask for, and those that there are without bases.
use Rattle.std.proofs.Common.{◌≡◌, ℕ, true, List, [], ◌∷◌, refl, ap}
use Rattle.std.specs.Prelude.{codes}
use Rattle.std.specs.List.{flat_map}
use Rattle.std.proofs.lemmas.Slice.Eq.{bytes_eq-Decides}
use Rattle.iv_fasta.specs.declared.rows.FastaOutput.{FastaOutput}
use Rattle.iv_lines.specs.Genome.{Sequences}
use Rattle.iv_lines.specs.RecordValue.{RecordValue}
use Rattle.iv_view.specs.Flags.{intersect_said, fasta_said}
use Rattle.iv_view.specs.Views.{written_rows}
use Rattle.iv_view.specs.declared.written_view.WrittenView.TheVariants.{Getfasta}
use Rattle.iv_view.proofs.FlagLemmas.{AreOthers}

-- the options of `intersect` beside `-wa`
pub intersect_others : AreOthers (codes "-wa") intersect_said
intersect_others = record {
  two = λ whole first second arguments. refl;
  own = λ argument is. ap (λ (w : List ℕ). intersect_said true (w ∷ [])) ((bytes_eq-Decides argument (codes "-wa")).0 is);
}

-- those of `getfasta` beside `-s`
pub getfasta_others : AreOthers (codes "-s") fasta_said
getfasta_others = record {
  two = λ stranded first second arguments. refl;
  own = λ argument is. ap (λ (w : List ℕ). fasta_said true (w ∷ [])) ((bytes_eq-Decides argument (codes "-s")).0 is);
}

-- without bases there is no row
pub no-bases : (shown : FastaOutput) (g : Sequences) (second records : List RecordValue) → flat_map (written_rows (Getfasta shown) g second []) records ≡ []
no-bases shown g second [] = refl
no-bases shown g second (r ∷ records) = no-bases shown g second records
