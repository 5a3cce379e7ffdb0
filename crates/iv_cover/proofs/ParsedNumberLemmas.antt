-- What positions in decimal spell.
use Rattle.std.proofs.Common.{◌≡◌, ◌<◌, ◌≤◌, ◌^◌, ◌==◌, ◌&&◌, ℕ, pos, Bool, true, false, List, [], ◌∷◌, Option, Some, length, decimal, if◌then◌else◌, ap, ◌∙◌, rules, arith}
use Rattle.std.specs.Prelude.{neg_ℤ}
use Rattle.std.specs.Char.{is_ascii_digit}
use Rattle.std.specs.Option.{option_map}
use Rattle.std.specs.Str.{all_ascii_digits, bytes_eq}
use Rattle.std.proofs.lemmas.Bool.{ne_eqb, and_parts}
use Rattle.std.proofs.lemmas.Bool.Decides.{nat_tests}
use Rattle.std.proofs.lemmas.Fmt.{digits_decimal, digits_value-decimal, length-decimal-le, decimal_nonempty}
use Rattle.std.proofs.lemmas.Str.Parse.{IsNumeralModel, numerals_by_fold, tells_all_ascii_digits}
use Rattle.iv_lines.specs.Number.{number_up_to}
use Rattle.iv_lines.specs.Inside.Number.{decimal_from}
use Rattle.iv_cover.specs.ParsedNumber.{spelled, spelled_as}
use Rattle.iv_cover.specs.Summaries.{number_of}
use Rattle.iv_cover.specs.declared.number.ParsedNumber.TheVariants.{Missing, Number}

own : IsNumeralModel (λ ds. all_ascii_digits ds ≡ true) (decimal_from 0)
own = numerals_by_fold _ tells_all_ascii_digits decimal_from (search rules)

-- a digit is no sign
not-sign : (b sign : ℕ) → is_ascii_digit b ≡ true → sign < 48 → (b == sign) ≡ false
not-sign b sign digit low =
    let high : 48 ≤ b = grind (arith, nat_tests, digit) in
    ne_eqb b sign (λ e. omega (arith, high, e, low))

-- digits that are a number of at most 15 of them spell it
spelled-digits : (ds : List ℕ) (n : ℕ) → all_ascii_digits ds ≡ true → 0 < length ds → number_up_to 15 ds ≡ Some n → spelled ds ≡ Number (pos n)
spelled-digits [] n digits some is = absurd (omega (arith, some))
spelled-digits (b ∷ bs) n digits some is =
    let first : is_ascii_digit b ≡ true = (and_parts (is_ascii_digit b) (all_ascii_digits bs) digits).0 in
    let dot : (b == 46) ≡ false = not-sign b 46 first (omega arith) in
    let minus : (b == 45) ≡ false = not-sign b 45 first (omega arith) in
    ap (λ (t : Bool). if (t && bytes_eq bs []) then Missing else spelled_as (number_of (b ∷ bs))) dot
    ∙ ap (λ (t : Bool). spelled_as (if t then option_map (λ m. neg_ℤ (pos m)) (number_up_to 15 bs) else option_map pos (number_up_to 15 (b ∷ bs)))) minus
    ∙ ap (λ (o : Option ℕ). spelled_as (option_map pos o)) is

-- a position in decimal spells itself
pub spelled-position : (n : ℕ) → n < 2 ^ 32 → spelled (decimal n) ≡ Number (pos n)
spelled-position n small =
    let digits : all_ascii_digits (decimal n) ≡ true = digits_decimal own n (omega (arith, small)) in
    let value : decimal_from 0 (decimal n) ≡ n = digits_value-decimal own n (omega (arith, small)) in
    let some : 0 < length (decimal n) = decimal_nonempty n (omega (arith, small)) in
    spelled-digits (decimal n) n digits some (search (rules, digits, value, some, length-decimal-le 10 n))
