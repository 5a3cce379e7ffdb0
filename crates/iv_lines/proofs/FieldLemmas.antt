-- The first field of a text, by where its first separator is.
use Rattle.std.proofs.Common.{◌≡◌, ℕ, ◌+◌, ◌<◌, ◌≤◌, false, List, [], ◌∷◌, ◌++◌, length, take, drop, get_or, refl, sym, ◌∙◌, ap, arith, add-one, drop-cons, length-take, append-nil}
use Rattle.std.proofs.lemmas.List.{take-append-drop}
use Rattle.std.proofs.lemmas.List.Splits.{slice_split_none, slice_split_at}
use Rattle.std.proofs.lemmas.Bool.{false_from_ne_true}
use Rattle.std.proofs.lemmas.Grind.{common_steps}
use Rattle.std.specs.List.{All}
use Rattle.bstr.specs.Find.{Nowhere, NoneBefore, Passes, is_byte}
use Rattle.iv_lines.specs.Fields.{fields, columns}
use Rattle.iv_lines.specs.Inside.Fields.{is_separator, HasNoTab}

module _ (separator : ℕ) where
  pub none_there : (xs : List ℕ) → Nowhere (Passes (is_byte separator) xs) 0 (length xs) → All (λ x. is_separator separator x ≡ false) xs
  none_there xs none = λ k d within.
      let at : get_or xs k d ≡ get_or xs k 0 = grind (arith, common_steps) in
      rw at (false_from_ne_true (is_separator separator (get_or xs k 0)) (none k (omega arith) within))

  pub none_before : (xs : List ℕ) (n : ℕ) → n ≤ length xs → Nowhere (Passes (is_byte separator) xs) 0 n → All (λ x. is_separator separator x ≡ false) (take n xs)
  none_before xs n le none = λ k d within.
      let short : k < n = omega (arith, length-take n xs) in
      let at : get_or (take n xs) k d ≡ get_or xs k 0 = grind (arith, common_steps) in
      rw at (false_from_ne_true (is_separator separator (get_or xs k 0)) (none k (omega arith) short))

  -- with no separator the text is one field
  pub fields-none : (xs : List ℕ) → Nowhere (Passes (is_byte separator) xs) 0 (length xs) → fields separator xs ≡ xs ∷ []
  fields-none xs none = slice_split_none (is_separator separator) xs (none_there xs none)

  -- the first field ends at the first separator
  pub fields-some : (xs : List ℕ) (k : ℕ) → NoneBefore (Passes (is_byte separator) xs) 0 (length xs) k → Passes (is_byte separator) xs k → fields separator xs ≡ take k xs ∷ fields separator (drop (k + 1) xs)
  fields-some xs k first is =
      let within : k < length xs = first.high in
      let whole : xs ≡ take k xs ++ (get_or xs k 0 ∷ drop (k + 1) xs) = sym (take-append-drop k xs) ∙ ap (λ t. take k xs ++ t) (rw (add-one, drop-cons xs k 0) refl) in
      ap (fields separator) whole ∙ slice_split_at (is_separator separator) (take k xs) (get_or xs k 0) (drop (k + 1) xs) (none_before xs k (omega arith) first.before) is

pub column-more : (column rest : List ℕ) → HasNoTab column → columns (column ++ 9 ∷ rest) ≡ column ∷ columns rest
column-more column rest plain = slice_split_at (is_separator 9) column 9 rest plain refl

pub column-last : (column : List ℕ) → HasNoTab column → columns (column ++ []) ≡ column ∷ []
column-last column plain = ap columns (append-nil column) ∙ slice_split_none (is_separator 9) column plain

pub empty-is : {X : Type 0} (xs : List X) → length xs ≤ 0 → xs ≡ []
empty-is [] none = refl
empty-is (x ∷ xs) none = absurd (omega arith)
