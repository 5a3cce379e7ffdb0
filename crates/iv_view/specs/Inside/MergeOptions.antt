-- The options of `merge` and `cluster`, and their arguments.
use Rattle.std.specs.Prelude.{ℕ, if◌then◌else◌, List, [], ◌∷◌, ◌++◌, map, codes}
use Rattle.std.specs.Option.{option_to_list}
use Rattle.iv_view.specs.Merge.{MergeArgs}

-- an option, with its value if it takes one
pub data MergeOption : Type 0 where
  Distance : (value : List ℕ) → MergeOption
  Columns : (value : List ℕ) → MergeOption
  Ops : (value : List ℕ) → MergeOption
  Stranded : MergeOption

-- the arguments of an option: `-d`, `-c` or `-o` with the value after it, or `-s` alone
abbrev pub words_of : MergeOption → List (List ℕ)
words_of (Distance value) = codes "-d" ∷ value ∷ []
words_of (Columns value) = codes "-c" ∷ value ∷ []
words_of (Ops value) = codes "-o" ∷ value ∷ []
words_of Stranded = codes "-s" ∷ []

-- the arguments of options, one option after another
abbrev pub option_arguments : List MergeOption → List (List ℕ)
option_arguments [] = []
option_arguments (first ∷ options) = words_of first ++ option_arguments options

-- the options that are given, each once
abbrev pub options_of : MergeArgs → List MergeOption
options_of said =
    map Distance (option_to_list said.distance) ++ map Columns (option_to_list said.columns) ++ map Ops (option_to_list said.ops)
    ++ (if said.stranded then Stranded ∷ [] else [])
