-- The first line of a text.
use Rattle.std.proofs.Common.{◌≡◌, ℕ, ◌+◌, ◌<◌, ◌≤◌, List, [], ◌∷◌, ◌++◌, length, take, drop, get_or, refl, sym, ap, ◌∙◌, arith, append_assoc, drop-cons, length-take, add-one}
use Rattle.std.proofs.lemmas.Bool.{eqb-true, eq-eqb}
use Rattle.std.proofs.lemmas.Grind.{common_steps}
use Rattle.std.proofs.lemmas.List.{take-append-drop, drop_all}
use Rattle.std.specs.Io.BufRead.{strip_last}
use Rattle.bstr.specs.Find.{Nowhere, NoneBefore, Passes, is_byte}
use Rattle.iv_lines.proofs.LineLemmas.{lines-line, lines-last}
use Rattle.iv_lines.specs.Lines.{lines, HasNoFeed}

-- no line feed is in front of the first
pub plain-front : (xs : List ℕ) (n : ℕ) → n ≤ length xs → Nowhere (Passes (is_byte 10) xs) 0 n → HasNoFeed (take n xs)
plain-front xs n le none = λ k d within e.
    let short : k < n = omega (arith, length-take n xs) in
    let at : get_or xs k 0 ≡ get_or (take n xs) k d = grind (arith, common_steps) in
    none k (omega arith) short (eq-eqb (get_or xs k 0) 10 (at ∙ e))

-- nor in a text in which none was found
pub plain-all : (xs : List ℕ) → Nowhere (Passes (is_byte 10) xs) 0 (length xs) → HasNoFeed xs
plain-all xs none = λ k d within e.
    let at : get_or xs k 0 ≡ get_or xs k d = grind (arith, common_steps) in
    none k (omega arith) within (eq-eqb (get_or xs k 0) 10 (at ∙ e))

pub line-fed : (xs : List ℕ) (k : ℕ) → NoneBefore (Passes (is_byte 10) xs) 0 (length xs) k → Passes (is_byte 10) xs k → lines xs ≡ strip_last 13 (take k xs) ∷ lines (drop (k + 1) xs)
line-fed xs k first is =
    let within : k < length xs = first.high in
    let feed : get_or xs k 0 ≡ 10 = eqb-true (get_or xs k 0) 10 is in
    let whole : xs ≡ take k xs ++ (get_or xs k 0 ∷ drop (k + 1) xs) = sym (take-append-drop k xs) ∙ ap (λ t. take k xs ++ t) (rw (add-one, drop-cons xs k 0) refl) in
    let split_up : take k xs ++ (get_or xs k 0 ∷ drop (k + 1) xs) ≡ (take k xs ++ 10 ∷ []) ++ drop (k + 1) xs =
    ap (λ b. take k xs ++ (b ∷ drop (k + 1) xs)) feed ∙ sym (append_assoc (take k xs) (10 ∷ []) (drop (k + 1) xs)) in
    ap lines (whole ∙ split_up) ∙ lines-line (take k xs) (drop (k + 1) xs) (plain-front xs k (omega arith) first.before)

pub line-ended : (xs : List ℕ) → 0 < length xs → Nowhere (Passes (is_byte 10) xs) 0 (length xs) → lines xs ≡ xs ∷ lines (drop (length xs) xs)
line-ended xs some none = lines-last xs (plain-all xs none) some ∙ ap (λ rest. xs ∷ lines rest) (sym (drop_all (length xs) xs (omega arith)))
