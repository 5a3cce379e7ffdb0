-- Values that are joined with commas.
use Rattle.std.specs.Prelude.{ℕ, ◌∷◌, List}
use Rattle.std.specs.List.{flat_map}
use Rattle.iv_lines.specs.Bytes.{comma}

-- values, each with a comma in front of it
abbrev pub after_commas : List (List ℕ) → List ℕ
after_commas values = flat_map (λ value. comma ∷ value) values
