-- The fields of a text, separated by one byte.
use Rattle.std.specs.Prelude.{ℕ, ◌==◌, not, List, [], Option, None, Some, filter, length}
use Rattle.std.specs.Borrow.{Bor}
use Rattle.std.specs.List.{slice_split}
use Rattle.iv_lines.specs.Bytes.{tab, space}

-- what is between the separators: one field more than there are separators
abbrev pub fields : ℕ → List ℕ → List (List ℕ)
fields separator text = slice_split (λ b. b == separator) text

-- the columns of a line are separated by TABs
abbrev pub columns : List ℕ → List (List ℕ)
columns line = fields tab line

-- the words of a text: its maximal runs without a space
abbrev pub words : List ℕ → List (List ℕ)
words text = filter (λ word. not (length word == 0)) (fields space text)

-- the fields of what is left of a text, if anything is left
abbrev pub fields_left : ℕ → Option (Bor (List ℕ)) → List (List ℕ)
fields_left separator None = []
fields_left separator (Some rest) = fields separator rest.now
