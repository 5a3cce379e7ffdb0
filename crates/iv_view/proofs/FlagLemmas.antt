-- Arguments of which one may be a flag.
use Rattle.std.proofs.Common.{◌≡◌, ◌∙◌, ℕ, ◌+◌, ◌<◌, ◌≤◌, Bool, true, false, inl, inr, List, [], ◌∷◌, Option, None, length, take, filter, map, get_or, refl, sym, ap, arith}
use Rattle.std.specs.Prelude.{if◌then◌else◌, not, nat_le, count_by}
use Rattle.std.specs.List.{list_any}
use Rattle.std.specs.Borrow.{Bor}
use Rattle.std.specs.Str.{bytes_eq}
use Rattle.std.proofs.lemmas.Bool.{cases_lt, leb-true}
use Rattle.std.proofs.lemmas.List.{take_all, length-take-le}
use Rattle.std.proofs.lemmas.List.Sums.{length-filter}
use Rattle.std.proofs.lemmas.List.Filters.{length-filter_both}
use Rattle.iv_view.specs.Flags.{beside_flag}

-- two others mean nothing, and the flag is no other
pub record AreOthers {R : Type 0} (flag : List ℕ) (said : Bool → List (List ℕ) → Option R) : Type 0 where
  pub two : (there : Bool) (first second : List ℕ) (arguments : List (List ℕ)) → said there (first ∷ second ∷ arguments) ≡ None
  pub own : (argument : List ℕ) → bytes_eq argument flag ≡ true → said true (argument ∷ []) ≡ None

module _ {R : Type 0} (flag : List ℕ) (said : Bool → List (List ℕ) → Option R) (others : AreOthers flag said) where
  -- whether an argument is the flag
  abbrev is_flag : List ℕ → Bool
  is_flag argument = bytes_eq argument flag

  two-others : (there : Bool) (arguments : List (List ℕ)) → 2 ≤ length arguments → said there arguments ≡ None
  two-others there [] long = absurd (omega (arith, long))
  two-others there (argument ∷ []) long = absurd (omega (arith, long))
  two-others there (argument ∷ next ∷ arguments) long = others.two there argument next arguments

  -- three arguments mean nothing
  pub three-words : (arguments : List (List ℕ)) → 3 ≤ length arguments → beside_flag flag said arguments ≡ None
  three-words arguments long = by (nat_le (count_by is_flag arguments) 1) refl
    where
      rest : List (List ℕ)
      rest = filter (λ argument. not (is_flag argument)) arguments

      by : (b : Bool) → nat_le (count_by is_flag arguments) 1 ≡ b → (if b then said (list_any is_flag arguments) rest else None) ≡ None
      by false is = refl
      by true is =
          let few : count_by is_flag arguments ≤ 1 = leb-true (count_by is_flag arguments) 1 is in
          let all : length (filter is_flag arguments) + length rest ≡ length arguments = length-filter_both is_flag (λ argument. not (is_flag argument)) (λ argument. refl) arguments in
          two-others (list_any is_flag arguments) rest (omega (arith, few, all, long, length-filter is_flag arguments))

  -- the flag and one other
  flag-first : (first second : List ℕ) → is_flag first ≡ true → beside_flag flag said (first ∷ second ∷ []) ≡ said true (second ∷ [])
  flag-first first second is = by (is_flag second) refl
    where
      by : (b : Bool) → is_flag second ≡ b → beside_flag flag said (first ∷ second ∷ []) ≡ said true (second ∷ [])
      by true twice = rw (is, twice) (sym (others.own second twice))
      by false other = rw (is, other) refl

  -- the same of the arguments of a slice
  pub flag-first-of : (arguments : List (Bor (List ℕ))) (d e : Bor (List ℕ)) → 2 ≤ length arguments → length arguments < 3 → is_flag (get_or arguments 0 d).now ≡ true
      → beside_flag flag said (map (λ argument. argument.now) arguments) ≡ said true ((get_or arguments 1 e).now ∷ [])
  flag-first-of [] d e low high is = absurd (omega (arith, low))
  flag-first-of (first ∷ []) d e low high is = absurd (omega (arith, low))
  flag-first-of (first ∷ second ∷ []) d e low high is = flag-first first.now second.now is
  flag-first-of (first ∷ second ∷ third ∷ arguments) d e low high is = absurd (omega (arith, high))

  -- arguments after the eighth change nothing
  pub flag-cut : (arguments : List (List ℕ)) → beside_flag flag said (take 8 arguments) ≡ beside_flag flag said arguments
  flag-cut arguments = elim (cases_lt 8 (length arguments)) [
    | inr few ↦ ap (beside_flag flag said) (take_all 8 arguments few)
    | inl many ↦ three-words (take 8 arguments) (omega (arith, length-take-le 8 arguments (omega arith))) ∙ sym (three-words arguments (omega arith))
  ]
