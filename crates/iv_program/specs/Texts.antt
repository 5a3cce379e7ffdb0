-- The texts of the files of a plan.
use Rattle.std.specs.Prelude.{◌≡◌, ℕ, List, [], ◌∷◌, Option, None, Some, IsSomeAnd}
use Rattle.std.specs.Option.{option_to_list}
use Rattle.iv_args.specs.Arguments.{RunPlan}
use Rattle.iv_args.specs.declared.plan.Slot.{Slot}
use Rattle.iv_args.specs.declared.plan.Slot.TheVariants.{Sizes, First, Other, Bases}
use Rattle.iv_program.specs.Files.{FilesState, IsText}

-- the bytes of the genome file, of the first file, and of the second and the FASTA file, if there are any
pub record Texts : Type 0 where
  pub sizes : List ℕ
  pub first : List ℕ
  pub other : Option (List ℕ)
  pub bases : Option (List ℕ)

-- there is a text if a file is named, and it is that of this file
abbrev pub IsTextIfNamed : FilesState → Option (List ℕ) → Option (List ℕ) → Type 0
IsTextIfNamed files None text = text ≡ None
IsTextIfNamed files (Some name) text = IsSomeAnd text (IsText files name)

-- these are the texts of the files that a plan names
pub record AreTexts (files : FilesState) (plan : RunPlan) (texts : Texts) : Type 0 where
  pub sizes : IsText files plan.sizes texts.sizes
  pub first : IsText files plan.first texts.first
  pub other : IsTextIfNamed files plan.other texts.other
  pub bases : IsTextIfNamed files plan.bases texts.bases

-- the names of the files of a plan that are read before the one of this slot, in the order in which they are read
abbrev pub names_before : RunPlan → Slot → List (List ℕ)
names_before plan Sizes = []
names_before plan First = plan.sizes ∷ []
names_before plan Other = plan.sizes ∷ plan.first ∷ []
names_before plan Bases = plan.sizes ∷ plan.first ∷ option_to_list plan.other
