-- Lists with commas between their items.
use Rattle.std.specs.Prelude.{ℕ, ◌==◌, nat_le, max, if◌then◌else◌, List, [], ◌∷◌, map, length, replicate, Option, None, Some}
use Rattle.std.specs.List.{zip}
use Rattle.std.specs.Option.{option_map, option_zip}
use Rattle.iv_lines.specs.Bytes.{comma}
use Rattle.iv_lines.specs.Fields.{fields}

-- all of these, if none is missing
abbrev pub all_some : {A : Type 0} → List (Option A) → Option (List A)
all_some [] = Some []
all_some (None ∷ items) = None
all_some (Some item ∷ items) = option_map (λ others. item ∷ others) (all_some items)

-- what the items of a list mean, if there are at most 16 and each means something
abbrev pub items_in : {A : Type 0} → (List ℕ → Option A) → List ℕ → Option (List A)
items_in says text =
    let items = fields comma text in
    if nat_le (length items) 16 then all_some (map says items) else None

-- a list of n items: a list of one item is repeated
abbrev pub of_length : {A : Type 0} → ℕ → List A → Option (List A)
of_length n (item ∷ []) = Some (replicate n item)
of_length n items = if length items == n then Some items else None

-- two lists paired off, item by item; a list of one item is repeated, and otherwise lists of two lengths have no pairs
abbrev pub pairs : {A B : Type 0} → List A → List B → Option (List (A × B))
pairs first second =
    let n = max (length first) (length second) in
    option_map (λ both. zip both.0 both.1) (option_zip (of_length n first) (of_length n second))
