-- What each operation gives for values in the order of a track.
use Rattle.std.specs.Prelude.{ℕ, ◌==◌, ℤ, pos, neg_ℤ, ◌+ℤ◌, List, [], ◌∷◌, length, Option, Some, None, if◌then◌else◌, codes, decimal}
use Rattle.std.specs.List.{join_with_byte, reduce}
use Rattle.std.specs.Map.{lookup}
use Rattle.std.specs.Int.{int_min, int_max}
use Rattle.std.specs.Fmt.{signed_decimal}
use Rattle.std.specs.Option.{option_map, option_and_then}
use Rattle.std.specs.Str.{bytes_eq}
use Rattle.std.specs.Ordering.{nat_cmp}
use Rattle.std.specs.Cmp.Lexicographic.{slice_cmp}
use Rattle.std.specs.declared.cmp.Ordering.TheVariants.{Less, Equal, Greater}
use Rattle.iv_lines.specs.Bytes.{minus_sign, comma}
use Rattle.iv_lines.specs.Number.{number_up_to}
use Rattle.iv_cover.specs.declared.op.Op.{Op}
use Rattle.iv_cover.specs.declared.op.Op.TheVariants.{Count, Sum, Min, Max, Collapse, Distinct}

-- the operation of this name
abbrev pub op_named : List ℕ → Option Op
op_named name =
    lookup (bytes_eq name)
    ((codes "count", Count) ∷ (codes "sum", Sum) ∷ (codes "min", Min) ∷ (codes "max", Max) ∷ (codes "collapse", Collapse)
    ∷ (codes "distinct", Distinct) ∷ [])

-- the number that a value is: an optional minus sign, and 1 to 15 digits
abbrev pub number_of : List ℕ → Option ℤ
number_of [] = None
number_of (byte ∷ bytes) =
    if byte == minus_sign then option_map (λ n. neg_ℤ (pos n)) (number_up_to 15 bytes)
    else option_map pos (number_up_to 15 (byte ∷ bytes))

-- the numbers among the values, without each value that is a full stop; none if some other value is no number
abbrev pub numbers_of : List (List ℕ) → Option (List ℤ)
numbers_of [] = Some []
numbers_of (value ∷ values) =
    if bytes_eq value (codes ".")
    then numbers_of values
    else option_and_then (λ number. option_map (λ numbers. number ∷ numbers) (numbers_of values)) (number_of value)

-- a number in decimal; a full stop if there is none
abbrev pub number_text : Option ℤ → List ℕ
number_text None = codes "."
number_text (Some number) = signed_decimal number

-- values in the order of their bytes with one more, if it is not among them
abbrev pub with_value : List ℕ → List (List ℕ) → List (List ℕ)
with_value value [] = value ∷ []
with_value value (first ∷ values) = elim (slice_cmp nat_cmp value first) [
  | Less ↦ value ∷ first ∷ values
  | Equal ↦ first ∷ values
  | Greater ↦ first ∷ with_value value values
]

-- the different values, in the order of their bytes
abbrev pub different : List (List ℕ) → List (List ℕ)
different [] = []
different (value ∷ values) = with_value value (different values)

-- what the operation gives for the values
abbrev pub summary_of : Op → List (List ℕ) → List ℕ
summary_of Count values = decimal (length values)
summary_of Sum values = number_text (option_and_then (reduce ◌+ℤ◌) (numbers_of values))
summary_of Min values = number_text (option_and_then (reduce int_min) (numbers_of values))
summary_of Max values = number_text (option_and_then (reduce int_max) (numbers_of values))
summary_of Collapse values = join_with_byte comma values
summary_of Distinct values = join_with_byte comma (different values)
