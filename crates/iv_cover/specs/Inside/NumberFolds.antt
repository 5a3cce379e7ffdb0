-- How two numbers are combined.
use Rattle.std.specs.Prelude.{ℕ, ℤ, ◌+ℤ◌, unsigned_abs, fold, List, Option, None, Some}
use Rattle.std.specs.Int.{int_min, int_max}
use Rattle.std.specs.List.{reduce}
use Rattle.std.specs.Option.{option_and_then}
use Rattle.iv_cover.specs.Summaries.{numbers_of}
use Rattle.iv_cover.specs.declared.number.NumberFold.{NumberFold}
use Rattle.iv_cover.specs.declared.number.NumberFold.TheVariants.{Sum, Least, Greatest}

-- two numbers taken together
abbrev pub both_of : NumberFold → ℤ → ℤ → ℤ
both_of Sum = ◌+ℤ◌
both_of Least = int_min
both_of Greatest = int_max

-- what was taken together before, if anything was, with one number more
abbrev pub with_number : (ℤ → ℤ → ℤ) → Option ℤ → ℤ → ℤ
with_number both None number = number
with_number both (Some before) number = both before number

-- how great it is, whatever its sign
abbrev pub size : Option ℤ → ℕ
size None = 0
size (Some number) = unsigned_abs number

-- the remaining numbers, combined with what was combined before
abbrev pub from_taken : (ℤ → ℤ → ℤ) → Option ℤ → List ℤ → Option ℤ
from_taken both None numbers = reduce both numbers
from_taken both (Some taken) numbers = Some (fold both taken numbers)

-- the numbers among remaining values, combined with what was combined before; none if some value is no number
abbrev pub going : (ℤ → ℤ → ℤ) → Option ℤ → List (List ℕ) → Option ℤ
going both taken values = option_and_then (from_taken both taken) (numbers_of values)
