-- The session that files begin.
use Rattle.std.proofs.Common.{◌≡◌, ◌≤◌, ℕ, List, length, IfSome, Option, None, Some, Result, Ok, Err, sym, ap, ◌∙◌, ◌⊎◌, inl, inr}
use Rattle.std.specs.Prelude.{All}
use Rattle.iv_lines.specs.Genome.{Sequences}
use Rattle.iv_text.specs.BedFile.{Bed}
use Rattle.iv_lines.specs.Chains.{if_ok}
use Rattle.iv_lines.specs.Read.{Fits}
use Rattle.iv_places.specs.declared.places.HeldColumns.TheVariants as held
use Rattle.iv_workspace.specs.States.{State, begun}
use Rattle.iv_run.specs.declared.exit_reason.CliFault.{CliFault}
use Rattle.iv_run.specs.declared.exit_reason.CliFault.TheVariants.{Memory}
use Rattle.iv_run.specs.Loading.{Parsed, parsed}
use Rattle.iv_run.specs.Inside.FilesReading.{AreOn}
use Rattle.iv_run.specs.RunFiles.{Reports}
use Rattle.iv_run.proofs.WantedLemmas.{held-whole}
use Rattle.iv_cli.specs.Loading.{loaded}

-- the records of a file that may be left out fit a genome, and are not too many
pub fits-beside : (g : Sequences) (limit : ℕ) (o : Option Bed) → IfSome o (AreOn g limit) → IfSome o (λ file. All (Fits g file.width) file.records)
fits-beside g limit None on = tt
fits-beside g limit (Some file) on = on.fit

pub few-beside : (g : Sequences) (limit : ℕ) (o : Option Bed) → IfSome o (AreOn g limit) → IfSome o (λ file. length file.records ≤ limit)
few-beside g limit None on = tt
few-beside g limit (Some file) on = on.few

-- ---- the session that files begin

module _ (width : ℕ) (sizes text : List ℕ) (other bases : Option (List ℕ)) (limit : ℕ) where
  -- the session that they begin
  abbrev begins_at : Parsed → Result State CliFault
  begins_at files = Ok (begun files.genome files.first files.second files.bases files.limit)

  -- the files are sound, and all of their records is held
  pub begins : (files : Parsed) (s : State) → Reports held.All None (Ok files) (parsed width sizes text other bases limit)
      → s ≡ begun files.genome files.first files.second files.bases files.limit → loaded width sizes text other bases limit ≡ Ok s
  begins files s all is = ap (λ (read : Result Parsed CliFault). if_ok read begins_at) (all.1 ∙ ap Ok (sym (all.2 ∙ held-whole all.0))) ∙ ap Ok (sym is)

  -- a file is damaged
  pub begins-not : (k : CliFault) → Reports held.All None (Err k) (parsed width sizes text other bases limit) → (k ≡ Memory) ⊎ (loaded width sizes text other bases limit ≡ Err k)
  begins-not k (inl memory) = inl memory
  begins-not k (inr is) = inr (ap (λ (read : Result Parsed CliFault). if_ok read begins_at) is)
