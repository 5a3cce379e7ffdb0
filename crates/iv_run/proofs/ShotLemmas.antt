-- A run by one sweep.
use Rattle.std.proofs.Common.{◌≡◌, ◌⊎◌, inl, inr, ℕ, List, Option, Result, Ok, Err, refl, ap, ◌∙◌}
use Rattle.iv_bytes.specs.Sinks.{SinkState}
use Rattle.iv_text.specs.BedFile.{Bed, bed_of}
use Rattle.iv_lines.specs.Genome.{Sequences}
use Rattle.iv_lines.specs.GenomeFile.{genome_of}
use Rattle.iv_lines.specs.declared.fault.LoadFault.{LoadFault}
use Rattle.iv_lines.specs.declared.fault.Fault.{Fault}
use Rattle.iv_lines.specs.declared.fault.Fault.TheVariants as refused
use Rattle.iv_fasta.specs.Fasta.{Bases}
use Rattle.iv_view.specs.declared.view.View.{View}
use Rattle.iv_run.specs.Inside.Prints.{Prints}
use Rattle.iv_run.specs.declared.exit_reason.CliFault.{CliFault}
use Rattle.iv_run.specs.declared.exit_reason.CliFault.TheVariants as fault
use Rattle.iv_run.specs.Loading.{Parsed, fault_of_arguments, parsed}
use Rattle.iv_run.specs.Inside.Shots.{bases_said, second_of, text_beside, view_beside}
use Rattle.iv_run.specs.Shots.{Shows}
use Rattle.iv_run.proofs.LoadLemmas.{with_bases, with_second, with_first, with_genome}
use Rattle.iv_lines.specs.Chains.{if_ok, map_fault}

-- the text of the view that was asked for, or the fault of its arguments
abbrev pub text_or_fault : Parsed → Result View Fault → Result (List ℕ) CliFault
text_or_fault files read = if_ok (map_fault fault.Words read) (λ view. Ok (text_beside files view))

-- the text of the view that arguments ask for, unless the files are damaged, or else the fault of the arguments
abbrev pub shown_of : List (List ℕ) → Result Parsed CliFault → Result (List ℕ) CliFault
shown_of arguments read = if_ok read (λ files. text_or_fault files (view_beside files arguments))

-- ---- damaged files

-- no file is reported as a fault of the output
module _ (width : ℕ) (first : List ℕ) (other bases : Option (List ℕ)) (limit : ℕ) where
  bases-reported : (g : Sequences) (bed : Bed) (second : Option Bed) (r : Result (Option Bases) LoadFault) → with_bases g bed second limit r ≡ Err fault.Output → ⊥
  bases-reported g bed second (Err f) e = cc
  bases-reported g bed second (Ok said) e = cc

  second-reported : (g : Sequences) (bed : Bed) (r : Result (Option Bed) LoadFault) → with_second g bed bases limit r ≡ Err fault.Output → ⊥
  second-reported g bed (Err f) e = cc
  second-reported g bed (Ok second) e = bases-reported g bed second (bases_said g bases) e

  first-reported : (g : Sequences) (r : Result Bed LoadFault) → with_first g width other bases limit r ≡ Err fault.Output → ⊥
  first-reported g (Err f) e = cc
  first-reported g (Ok bed) e = second-reported g bed (second_of g width limit other) e

  genome-reported : (r : Result Sequences LoadFault) → with_genome width first other bases limit r ≡ Err fault.Output → ⊥
  genome-reported (Err f) e = cc
  genome-reported (Ok g) e = first-reported g (bed_of g width limit first) e

-- a damaged file is reported, and nothing is printed
pub shows-damage : (width : ℕ) (sizes first : List ℕ) (other bases : Option (List ℕ)) (limit : ℕ) (arguments : List (List ℕ)) (reported : CliFault) (old : SinkState)
    → (reported ≡ fault.Memory) ⊎ (parsed width sizes first other bases limit ≡ Err reported) → Shows old old (Err reported) (shown_of arguments (parsed width sizes first other bases limit))
shows-damage width sizes first other bases limit arguments fault.Memory old why = refl
shows-damage width sizes first other bases limit arguments fault.Output old (inr e) = absurd (genome-reported width first other bases limit (genome_of sizes) e)
shows-damage width sizes first other bases limit arguments reported old (inl e) = cc
shows-damage width sizes first other bases limit arguments reported old (inr e) = (ap (shown_of arguments) e, refl)

-- ---- sound files

module _ (said : Result Parsed CliFault) (files : Parsed) (is : said ≡ Ok files) (arguments : List (List ℕ)) where
  asked-is : (r : Result View Fault) → view_beside files arguments ≡ r → shown_of arguments said ≡ text_or_fault files r
  asked-is r asked = ap (shown_of arguments) is ∙ ap (text_or_fault files) asked

  -- the text of the view is printed; or a prefix of it is, and the output failed; or nothing is, for out of memory
  pub shows-text : (view : View) → view_beside files arguments ≡ Ok view → (old new : SinkState) (result : Result (Unit {0}) CliFault)
      → Prints old new result (text_beside files view) → Shows old new result (shown_of arguments said)
  shows-text view asked old new (Ok done) takes = (text_beside files view, asked-is (Ok view) asked, takes)
  shows-text view asked old new (Err fault.Output) fails = (text_beside files view, asked-is (Ok view) asked, fails)
  shows-text view asked old new (Err fault.Memory) same = same
  shows-text view asked old new (Err why) prints = absurd prints

  -- the fault of the arguments is reported, and nothing is printed
  pub shows-fault : (f : Fault) → view_beside files arguments ≡ Err f → (old : SinkState) → Shows old old (Err (fault_of_arguments f)) (shown_of arguments said)
  shows-fault f asked old = by f (asked-is (Err f) asked)
    where
      by : (f : Fault) → shown_of arguments said ≡ Err (fault.Words f) → Shows old old (Err (fault_of_arguments f)) (shown_of arguments said)
      by refused.NoMemory e = refl
      by other e = (e, refl)
