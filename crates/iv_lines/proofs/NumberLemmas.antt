-- Digits, and the numbers that they mean.
use Rattle.std.proofs.Common.{◌≡◌, ℕ, ◌+◌, ◌-◌, ◌*◌, ◌<◌, ◌≤◌, Bool, true, false, ◌&&◌, nat_lt, List, [], ◌∷◌, ◌++◌, Some, length, refl, sym, ap, ◌∙◌, arith, ◌^◌, add-one}
use Rattle.std.proofs.lemmas.Bool.{and_from, and_parts, cond-true, cond-false, ne_eqb, false≢true, lt-ltb}
use Rattle.std.proofs.lemmas.Bool.Decides.{nat_tests}
use Rattle.std.proofs.Math.Nat.{pow-le-pow_right}
use Rattle.std.proofs.lemmas.List.Elements.{All-nil, All-cons}
use Rattle.std.specs.Char.{is_ascii_digit}
use Rattle.std.specs.Str.{all_ascii_digits}
use Rattle.iv_lines.specs.Number.{number}
use Rattle.iv_lines.specs.Inside.Number.{decimal_from}
use Rattle.iv_lines.specs.Inside.Fields.{HasNoTab, is_separator}
use Rattle.std.proofs.lemmas.Option.{none-some}

pub decimal-more : (n : ℕ) (xs : List ℕ) (b : ℕ) → decimal_from n (xs ++ b ∷ []) ≡ decimal_from n xs * 10 + (b - 48)
decimal-more n [] b = refl
decimal-more n (x ∷ xs) b = decimal-more (n * 10 + (x - 48)) xs b

pub digits-more : (xs : List ℕ) (b : ℕ) → all_ascii_digits xs ≡ true → is_ascii_digit b ≡ true → all_ascii_digits (xs ++ b ∷ []) ≡ true
digits-more [] b all is = and_from (is_ascii_digit b) true is refl
digits-more (x ∷ xs) b all is =
    let both = and_parts (is_ascii_digit x) (all_ascii_digits xs) all in
    and_from (is_ascii_digit x) (all_ascii_digits (xs ++ b ∷ [])) both.0 (digits-more xs b both.1 is)

pub number-is : (ds : List ℕ) → 0 < length ds → length ds ≤ 10 → all_ascii_digits ds ≡ true → number ds ≡ Some (decimal_from 0 ds)
number-is ds some few all =
    cond-true _ _ _ (and_from (nat_lt 0 (length ds) && nat_lt (length ds) 11) (all_ascii_digits ds)
    (and_from (nat_lt 0 (length ds)) (nat_lt (length ds) 11) (lt-ltb 0 (length ds) some) (lt-ltb (length ds) 11 (omega arith))) all)

digit-plain : (b : ℕ) → is_ascii_digit b ≡ true → is_separator 9 b ≡ false
digit-plain b is = ne_eqb b 9 (λ e. false≢true (ap is_ascii_digit (sym e) ∙ is))

digits-plain : (ds : List ℕ) → all_ascii_digits ds ≡ true → HasNoTab ds
digits-plain [] all = All-nil (λ b. is_separator 9 b ≡ false)
digits-plain (d ∷ ds) all =
    let both = and_parts (is_ascii_digit d) (all_ascii_digits ds) all in
    All-cons (λ b. is_separator 9 b ≡ false) d ds (digit-plain d both.0) (digits-plain ds both.1)

pub number-digits : (ds : List ℕ) (n : ℕ) → number ds ≡ Some n → all_ascii_digits ds ≡ true
number-digits ds n is = by (nat_lt 0 (length ds) && nat_lt (length ds) 11 && all_ascii_digits ds) refl
  where
    by : (t : Bool) → (nat_lt 0 (length ds) && nat_lt (length ds) 11 && all_ascii_digits ds) ≡ t → all_ascii_digits ds ≡ true
    by true e = (and_parts (nat_lt 0 (length ds) && nat_lt (length ds) 11) (all_ascii_digits ds) e).1
    by false e = absurd (none-some n (sym (cond-false _ _ _ e) ∙ is))

pub number-plain : (ds : List ℕ) (n : ℕ) → number ds ≡ Some n → HasNoTab ds
number-plain ds n is = digits-plain ds (number-digits ds n is)

pub digit-bound : (b : ℕ) → is_ascii_digit b ≡ true → b ≤ 57
digit-bound b is = grind (arith, nat_tests, is)

pub bound-more : (v b k : ℕ) → v < 10 ^ k → b ≤ 57 → v * 10 + (b - 48) < 10 ^ (k + 1)
bound-more v b k low few = rw add-one (grind arith)

pub powers-grow : (i j : ℕ) → i ≤ j → 10 ^ i ≤ 10 ^ j
powers-grow i j le = pow-le-pow_right (omega arith) le
