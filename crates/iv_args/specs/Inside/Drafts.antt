-- What is read of the arguments of a run so far. This is the state of their reader, as seen by its proof.
use Rattle.std.specs.Prelude.{◌≡◌, ◌≢◌, ℕ, nat_le, ◌&&◌, if◌then◌else◌, Bool, true, false, ◌++◌, List, [], ◌∷◌, Option, None, Some, Result, Ok, Err, codes}
use Rattle.std.specs.Map.{lookup}
use Rattle.std.specs.Option.{is_some, option_and_then, option_to_list}
use Rattle.std.specs.Str.{bytes_eq}
use Rattle.iv_args.specs.declared.subcommand.Subcommand.{Subcommand}
use Rattle.iv_args.specs.declared.subcommand.RunOption.{RunOption}
use Rattle.iv_args.specs.declared.subcommand.RunOption.TheVariants as option
use Rattle.iv_lines.specs.declared.fault.Fault.{Fault}
use Rattle.iv_lines.specs.declared.fault.Fault.TheVariants as fault
use Rattle.iv_lines.specs.Number.{number}
use Rattle.iv_view.specs.Arguments.{read_arguments}
use Rattle.iv_view.specs.declared.view.View.{View}
use Rattle.iv_args.specs.declared.subcommand.Subcommand.TheVariants as kind
use Rattle.iv_args.specs.Arguments.{RunPlan, most_limit, option_of, said_once, takes_value}

-- what is read of the arguments so far
pub record PartialPlan : Type 0 where
  pub sizes : Option (List ℕ)
  pub first : Option (List ℕ)
  pub other : Option (List ℕ)
  pub bases : Option (List ℕ)
  pub width : Option (List ℕ)
  pub limit : Option (List ℕ)
  pub view : List (List ℕ)

-- the first argument of the view: that of the run; a session has none
abbrev pub lead : Subcommand → List ℕ → List (List ℕ)
lead kind.Session argument = []
lead run argument = argument ∷ []

-- what is read once the first argument is
abbrev pub begun_by : Subcommand → List ℕ → PartialPlan
begun_by run argument = record { sizes = None; first = None; other = None; bases = None; width = None; limit = None; view = lead run argument }

-- a value, unless one was given before
abbrev pub unless_given : Option (List ℕ) → PartialPlan → Option PartialPlan
unless_given None said = Some said
unless_given (Some value) said = None

-- what is read after a value for an option, if it can be given
abbrev pub with_value : RunOption → List ℕ → PartialPlan → Option PartialPlan
with_value option.Sizes value said = unless_given said.sizes (record said { sizes = Some value })
with_value option.First value said = unless_given said.first (record said { first = Some value })
with_value option.Other value said = unless_given said.other (record said { other = Some value })
with_value option.Bases value said = unless_given said.bases (record said { bases = Some value })
with_value option.Width value said = unless_given said.width (record said { width = Some value })
with_value option.Limit value said = unless_given said.limit (record said { limit = Some value })

-- what is read after more arguments of the view
abbrev pub viewed : List (List ℕ) → PartialPlan → PartialPlan
viewed arguments said = record said { view = said.view ++ arguments }

-- what is read after the last argument, if it can be taken
abbrev pub last_drafted : Option RunOption → List ℕ → PartialPlan → Option PartialPlan
last_drafted None argument said = Some (viewed (argument ∷ []) said)
last_drafted (Some asked) argument said = None

-- what is read after an argument, the next one if it is a value, and those after
abbrev pub next_drafted : Option RunOption → Bool → List ℕ → List ℕ → (PartialPlan → Option PartialPlan) → (PartialPlan → Option PartialPlan) → PartialPlan → Option PartialPlan
next_drafted (Some asked) takes argument next after_both later said = option_and_then after_both (with_value asked next said)
next_drafted None true argument next after_both later said = after_both (viewed (argument ∷ next ∷ []) said)
next_drafted None false argument next after_both later said = later (viewed (argument ∷ []) said)

-- what is read after arguments, if they can be taken
abbrev pub drafted : Subcommand → List (List ℕ) → PartialPlan → Option PartialPlan
drafted run [] said = Some said
drafted run (argument ∷ []) said = last_drafted (option_of run argument) argument said
drafted run (argument ∷ next ∷ arguments) said =
    next_drafted (option_of run argument) (takes_value run argument) argument next (drafted run arguments) (drafted run (next ∷ arguments)) said

-- whether arguments were read as those of a view, or have a fault that only the files can show
abbrev pub are_understood : Result View Fault → Bool
are_understood (Ok view) = true
are_understood (Err fault.Words) = false
are_understood (Err why) = true

-- whether the arguments of the view are accepted
abbrev pub are_view_arguments : Subcommand → List (List ℕ) → Bool
are_view_arguments kind.Session [] = true
are_view_arguments kind.Session (argument ∷ arguments) = false
are_view_arguments run arguments = are_understood (read_arguments 6 true true arguments)

-- the arguments of the view are accepted, for records of six columns and beside both files; a fault that only the files can show is
-- none here, and a session has no such arguments
abbrev pub AreViewArguments : Subcommand → List (List ℕ) → Type 0
AreViewArguments kind.Session arguments = arguments ≡ []
AreViewArguments run arguments = read_arguments 6 true true arguments ≢ Err fault.Words

-- whether the files are named that a kind of run needs beside the genome and the records: the second file and the FASTA file
abbrev pub has_needed_files : Subcommand → Option (List ℕ) → Option (List ℕ) → Bool
has_needed_files kind.Intersect other bases = is_some other
has_needed_files kind.Subtract other bases = is_some other
has_needed_files kind.Getfasta other bases = is_some bases
has_needed_files run other bases = true

-- the width of the values that are given for it: one of these digits, and 3 if there is none
abbrev pub width_said : List (List ℕ) → Option ℕ
width_said values = said_once 3 (λ value. lookup (bytes_eq value) ((codes "3", 3) ∷ (codes "4", 4) ∷ (codes "5", 5) ∷ (codes "6", 6) ∷ [])) values

-- the limit of the values that are given for it: a number from 1 to the greatest, and 4,000,000 if there is none
abbrev pub limit_said : List (List ℕ) → Option ℕ
limit_said values = said_once 4000000 (λ value. option_and_then (λ n. if nat_le 1 n && nat_le n most_limit then Some n else None) (number value)) values

-- what is read of arguments makes a plan of this kind
pub record Makes (run : Subcommand) (said : PartialPlan) (plan : RunPlan) : Type 0 where
  pub run_is : plan.run ≡ run
  pub sizes : said.sizes ≡ Some plan.sizes
  pub first : said.first ≡ Some plan.first
  pub other : said.other ≡ plan.other
  pub bases : said.bases ≡ plan.bases
  pub width : width_said (option_to_list said.width) ≡ Some plan.width
  pub limit : limit_said (option_to_list said.limit) ≡ Some plan.limit
  pub view : said.view ≡ plan.view
  pub needed : has_needed_files run said.other said.bases ≡ true
  pub understood : are_view_arguments run said.view ≡ true
