-- The byte that separates fields, bytes that have no TAB among them, and the columns after one of them.
use Rattle.std.specs.Prelude.{◌≡◌, ◌==◌, All, ℕ, Bool, false, List, ◌∷◌, ◌++◌}
use Rattle.iv_lines.specs.Bytes.{tab}
use Rattle.iv_lines.specs.Fields.{columns}

-- the byte is the one that separates fields
abbrev pub is_separator : ℕ → ℕ → Bool
is_separator separator b = b == separator

-- no TAB is among the bytes
abbrev pub HasNoTab : List ℕ → Type 0
HasNoTab bytes = All (λ b. is_separator tab b ≡ false) bytes

-- the columns after a column that ends at the rest of its line
abbrev pub ArePassed : List ℕ → List (List ℕ) → Type 0
ArePassed rest others = (column : List ℕ) → HasNoTab column → columns (column ++ rest) ≡ column ∷ others
