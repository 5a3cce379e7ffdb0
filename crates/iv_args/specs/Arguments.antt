-- The arguments of a run.
use Rattle.std.specs.Prelude.{◌≡◌, ◌≢◌, ℕ, ◌&&◌, ◌||◌, nat_le, Bool, true, false, if◌then◌else◌, List, [], ◌∷◌, Option, None, Some, Err, All, map, filter, codes}
use Rattle.std.specs.Map.{lookup}
use Rattle.std.specs.Option.{is_some, option_and_then, option_map, option_to_list}
use Rattle.std.specs.Str.{bytes_eq}
use Rattle.iv_lines.specs.declared.fault.Fault.TheVariants as fault
use Rattle.iv_lines.specs.Number.{number}
use Rattle.iv_view.specs.Arguments.{read_arguments}
use Rattle.iv_args.specs.declared.subcommand.Subcommand.{Subcommand}
use Rattle.iv_args.specs.declared.subcommand.Subcommand.TheVariants as kind
use Rattle.iv_args.specs.declared.subcommand.RunOption.{RunOption}
use Rattle.iv_args.specs.declared.subcommand.RunOption.TheVariants as option
use Rattle.iv_args.specs.declared.plan.Slot.{Slot}
use Rattle.iv_args.specs.declared.plan.Slot.TheVariants.{Sizes, First, Other, Bases}

-- what the arguments of a run mean: its kind; the names of its files, the second file's and the FASTA file's if there is one;
-- the width of a BED file without a record; how many records a file and how many lines a script may have; and the arguments of the view that is printed, the subcommand first, none for a session
pub record RunPlan : Type 0 where
  pub run : Subcommand
  pub sizes : List ℕ
  pub first : List ℕ
  pub other : Option (List ℕ)
  pub bases : Option (List ℕ)
  pub width : ℕ
  pub limit : ℕ
  pub view : List (List ℕ)

-- the name of a file
abbrev pub file_of : RunPlan → Slot → Option (List ℕ)
file_of plan Sizes = Some plan.sizes
file_of plan First = Some plan.first
file_of plan Other = plan.other
file_of plan Bases = plan.bases

-- the kind of run that an argument names
abbrev pub run_of : List ℕ → Option Subcommand
run_of argument =
    lookup (bytes_eq argument) ((codes "session", kind.Session) ∷ (codes "merge", kind.Merge) ∷ (codes "cluster", kind.Cluster)
    ∷ (codes "complement", kind.Complement) ∷ (codes "genomecov", kind.Genomecov) ∷ (codes "intersect", kind.Intersect)
    ∷ (codes "subtract", kind.Subtract) ∷ (codes "getfasta", kind.Getfasta) ∷ (codes "records", kind.Records) ∷ [])

-- whether a script is run
abbrev pub is_session : Subcommand → Bool
is_session kind.Session = true
is_session run = false

-- the options of each kind of run that name the file of the records, the second file and the FASTA file, as far as it takes them
abbrev pub file_options : Subcommand → List (List ℕ × RunOption)
file_options kind.Session = (codes "-i", option.First) ∷ (codes "-b", option.Other) ∷ (codes "-fi", option.Bases) ∷ []
file_options kind.Intersect = (codes "-a", option.First) ∷ (codes "-b", option.Other) ∷ []
file_options kind.Subtract = (codes "-a", option.First) ∷ (codes "-b", option.Other) ∷ []
file_options kind.Getfasta = (codes "-bed", option.First) ∷ (codes "-fi", option.Bases) ∷ []
file_options run = (codes "-i", option.First) ∷ []

-- the option that an argument is: one that names a file of this kind of run, or the one of the width or the limit
abbrev pub option_of : Subcommand → List ℕ → Option RunOption
option_of run argument = lookup (bytes_eq argument) ((codes "-g", option.Sizes) ∷ (codes "-width", option.Width) ∷ (codes "-limit", option.Limit) ∷ file_options run)

-- whether an argument of the view has the next argument as its value
abbrev pub takes_value : Subcommand → List ℕ → Bool
takes_value kind.Merge argument = bytes_eq argument (codes "-d") || bytes_eq argument (codes "-c") || bytes_eq argument (codes "-o")
takes_value kind.Cluster argument = bytes_eq argument (codes "-d")
takes_value run argument = false

-- arguments separated into options with their values and arguments of the view, both in their order
pub record SplitArguments : Type 0 where
  pub settings : List (RunOption × List ℕ)
  pub view : List (List ℕ)

-- an argument and the next one, given the parts after the two, and those after the first: the next argument is the value of an option or
-- of an argument of the view that takes one, whatever it is
abbrev pub split_next : Option RunOption → Bool → List ℕ → List ℕ → Option SplitArguments → Option SplitArguments → Option SplitArguments
split_next (Some asked) takes argument next after_both later = option_map (λ (parts : SplitArguments). record parts { settings = (asked, next) ∷ parts.settings }) after_both
split_next None true argument next after_both later = option_map (λ (parts : SplitArguments). record parts { view = argument ∷ next ∷ parts.view }) after_both
split_next None false argument next after_both later = option_map (λ (parts : SplitArguments). record parts { view = argument ∷ parts.view }) later

-- the arguments after the first of a run, separated from the front; an option can't be the last of them
abbrev pub split_arguments : Subcommand → List (List ℕ) → Option SplitArguments
split_arguments run [] = Some (record { settings = []; view = [] })
split_arguments run (argument ∷ []) = if is_some (option_of run argument) then None else Some (record { settings = []; view = argument ∷ [] })
split_arguments run (argument ∷ next ∷ arguments) =
    split_next (option_of run argument) (takes_value run argument) argument next (split_arguments run arguments) (split_arguments run (next ∷ arguments))

-- whether two options are the same
abbrev pub is_option : RunOption → RunOption → Bool
is_option option.Sizes option.Sizes = true
is_option option.First option.First = true
is_option option.Other option.Other = true
is_option option.Bases option.Bases = true
is_option option.Width option.Width = true
is_option option.Limit option.Limit = true
is_option asked _ = false

-- the values that an option is given, in order
abbrev pub values_of : RunOption → List (RunOption × List ℕ) → List (List ℕ)
values_of asked settings = map (λ setting. setting.1) (filter (λ setting. is_option asked setting.0) settings)

-- what the values mean that are given for an option that may be left out: this if there is none, what one means if there is one; more
-- are refused
abbrev pub said_once : ℕ → (List ℕ → Option ℕ) → List (List ℕ) → Option ℕ
said_once usual meaning [] = Some usual
said_once usual meaning (value ∷ []) = meaning value
said_once usual meaning values = None

-- the greatest limit
abbrev pub most_limit : ℕ
most_limit = 100000000

-- what each kind of run asks for, given its first argument and the parts of the others: a session has no arguments of a view. The arguments of the
-- view of a subcommand are its first argument and those among the others, and are accepted for records of six columns and beside both files;
-- a fault that only the files can show is none here. Each file is named that it has an option for
abbrev pub IsOfKind : Subcommand → List ℕ → SplitArguments → List (List ℕ) → Type 0
IsOfKind kind.Session argument parts view = (parts.view ≡ []) × (view ≡ [])
IsOfKind run argument parts view =
    (view ≡ argument ∷ parts.view) × (read_arguments 6 true true view ≢ Err fault.Words) × All (λ file. values_of file.1 parts.settings ≢ []) (file_options run)

-- the arguments are those of the plan: the first is that of its kind, and the others are separated into options with their values and the arguments
-- of its view; `-g` and the file of the records are given once, and the second file, the FASTA file, `-width` and `-limit` once at most. A
-- width is a digit from 3 to 6, 3 if none is given, and a limit a number from 1 to 100,000,000, or else 4,000,000
pub record IsPlan (arguments : List (List ℕ)) (plan : RunPlan) : Type 0 where
  pub argument : List ℕ
  pub rest : List (List ℕ)
  pub parts : SplitArguments
  pub are : arguments ≡ argument ∷ rest
  pub run : run_of argument ≡ Some plan.run
  pub splitting : split_arguments plan.run rest ≡ Some parts
  pub sizes : values_of option.Sizes parts.settings ≡ plan.sizes ∷ []
  pub first : values_of option.First parts.settings ≡ plan.first ∷ []
  pub other : values_of option.Other parts.settings ≡ option_to_list plan.other
  pub bases : values_of option.Bases parts.settings ≡ option_to_list plan.bases
  pub width : said_once 3 (λ value. lookup (bytes_eq value) ((codes "3", 3) ∷ (codes "4", 4) ∷ (codes "5", 5) ∷ (codes "6", 6) ∷ []))
      (values_of option.Width parts.settings) ≡ Some plan.width
  pub limit : said_once 4000000 (λ value. option_and_then (λ n. if nat_le 1 n && nat_le n 100000000 then Some n else None) (number value))
      (values_of option.Limit parts.settings) ≡ Some plan.limit
  pub kind : IsOfKind plan.run argument parts plan.view
