-- The arguments of a run in pieces: an argument, with the value after it if it takes one.
use Rattle.std.specs.Prelude.{◌≡◌, ℕ, ◌++◌, ◌||◌, List, [], ◌∷◌, Option}
use Rattle.std.specs.Option.{is_some, option_to_list}
use Rattle.iv_args.specs.declared.subcommand.Subcommand.{Subcommand}
use Rattle.iv_args.specs.Arguments.{option_of, takes_value}

-- an argument, and a value after it or none
pub record Piece : Type 0 where
  pub argument : List ℕ
  pub value : Option (List ℕ)

-- the arguments of pieces, one piece after another
abbrev pub piece_arguments : List Piece → List (List ℕ)
piece_arguments [] = []
piece_arguments (piece ∷ pieces) = (piece.argument ∷ option_to_list piece.value) ++ piece_arguments pieces

-- it has a value exactly if its argument is an option of this kind of run, or an argument of the view that takes one
abbrev pub IsPiece : Subcommand → Piece → Type 0
IsPiece run piece = is_some piece.value ≡ (is_some (option_of run piece.argument) || takes_value run piece.argument)
