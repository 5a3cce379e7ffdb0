-- What the values of a column are to an operation on numbers.
use Rattle.std.specs.Prelude.{◌≡◌, ℕ, ℤ, ◌<◌, ◌^◌, ⊤, unsigned_abs, List, [], ◌∷◌, Option, Some, None, if◌then◌else◌, codes}
use Rattle.std.specs.Str.{bytes_eq}
use Rattle.iv_cover.specs.Summaries.{number_of}
use Rattle.iv_cover.specs.declared.number.ParsedNumber.{ParsedNumber}
use Rattle.iv_cover.specs.declared.number.ParsedNumber.TheVariants.{Missing, Number, Other}

-- a number, or none
abbrev pub spelled_as : Option ℤ → ParsedNumber
spelled_as None = Other
spelled_as (Some number) = Number number

-- what a value spells: nothing if it is a full stop, a number, or neither
abbrev pub spelled : List ℕ → ParsedNumber
spelled value = if bytes_eq value (codes ".") then Missing else spelled_as (number_of value)

-- a number that is spelled has at most 15 digits
abbrev pub IsShort : ParsedNumber → Type 0
IsShort Missing = ⊤
IsShort (Number number) = unsigned_abs number < 10 ^ 15
IsShort Other = ⊤

-- a call gave what the first of these values spells, and left the others; or there was none
abbrev pub SpellsFirst : {V : Type 0} → (V → List (List ℕ)) → V → Option ParsedNumber → V → Type 0
SpellsFirst values old None new = values old ≡ []
SpellsFirst values old (Some found) new = (value : List ℕ) × (values old ≡ value ∷ values new) × (found ≡ spelled value)
