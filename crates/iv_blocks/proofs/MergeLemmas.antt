-- The rows of the entries are those of the merge.
use Rattle.std.proofs.Common.{◌≡◌, ℕ, Bool, List, [], ◌∷◌, None, map, length, refl, ◌∙◌, ap, arith, All, length-append}
use Rattle.std.specs.List.{flat_map, range_with_len, take_while}
use Rattle.std.proofs.lemmas.List.Folds.{flat_map-map}
use Rattle.std.proofs.lemmas.List.{length-map}
use Rattle.iv_lines.specs.Genome.{Sequences, seq_count}
use Rattle.iv_lines.specs.Named.{names_of}
use Rattle.iv_lines.specs.Read.{Fits}
use Rattle.iv_lines.specs.RecordValue.{RecordValue}
use Rattle.iv_blocks.specs.Groups.{sides}
use Rattle.iv_blocks.specs.KeptBlocks.{Entries, AreBlocksOf}
use Rattle.iv_blocks.specs.MergeRows.{side_blocks, all_blocks, side_rows, merge_text}
use Rattle.iv_blocks.specs.Inside.Regions.{goes_on}
use Rattle.iv_blocks.specs.Inside.Texts.{entry_row}
use Rattle.iv_blocks.specs.declared.options.BlockOptions.{BlockOptions}
use Rattle.iv_blocks.proofs.BlockCursorLemmas.{take-first}
use Rattle.iv_blocks.proofs.KeptLemmas.{entries-are, entry_of, flat_map-agree, flat_map-flat_map}

-- a print without an end goes over all
pub take-always : (entries : Entries) → take_while (goes_on None) entries ≡ entries
take-always [] = refl
take-always (e ∷ entries) = take-first (goes_on None) (e ∷ entries) entries e refl refl ∙ ap (λ (l : Entries). e ∷ l) (take-always entries)

length-same : {X Y Z : Type 0} (f : X → List Y) (h : X → List Z) (xs : List X) → ((x : X) → length (f x) ≡ length (h x)) → length (flat_map f xs) ≡ length (flat_map h xs)
length-same f h [] same = refl
length-same f h (x ∷ xs) same =
    omega (arith, length-append (f x) (flat_map f xs), length-append (h x) (flat_map h xs), same x, length-same f h xs same)

module _ (o : BlockOptions) (g : Sequences) (width : ℕ) (records : List RecordValue) (entries : Entries) (right : AreBlocksOf o (names_of g) records entries) (fit : All (Fits g width) records) where
  pub rows-are : flat_map (entry_row g) entries ≡ merge_text o g records
  rows-are =
      let ranks : List ℕ = range_with_len 0 (seq_count g) in
      let own : ℕ → Bool → Entries = λ s t. map (entry_of o g s t) (side_blocks o g records s t) in
      ap (flat_map (entry_row g)) (entries-are o g width records fit entries right)
      ∙ flat_map-flat_map (entry_row g) (λ s. flat_map (own s) (sides o.stranded)) ranks
      ∙ flat_map-agree (λ s. flat_map (entry_row g) (flat_map (own s) (sides o.stranded))) (λ s. flat_map (side_rows o g records s) (sides o.stranded)) ranks
      (λ s. flat_map-flat_map (entry_row g) (own s) (sides o.stranded)
      ∙ flat_map-agree (λ t. flat_map (entry_row g) (own s t)) (side_rows o g records s) (sides o.stranded)
      (λ t. flat_map-map (entry_row g) (entry_of o g s t) (side_blocks o g records s t)))

  pub count-is : length entries ≡ length (all_blocks o g records)
  count-is =
      ap (λ (l : Entries). length l) (entries-are o g width records fit entries right)
      ∙ length-same (λ s. flat_map (λ t. map (entry_of o g s t) (side_blocks o g records s t)) (sides o.stranded)) (λ s. flat_map (side_blocks o g records s) (sides o.stranded)) (range_with_len 0 (seq_count g))
      (λ s. length-same (λ t. map (entry_of o g s t) (side_blocks o g records s t)) (side_blocks o g records s) (sides o.stranded)
      (λ t. length-map (side_blocks o g records s t) (entry_of o g s t)))
