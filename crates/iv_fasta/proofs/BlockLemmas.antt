-- Which bytes of a FASTA file are bases.
use Rattle.std.proofs.Common.{◌≡◌, ℕ, zero, suc, ◌+◌, ◌-◌, ◌<◌, ◌≤◌, false, List, length, take, drop, get_or, refl, sym, ap, ◌∙◌, arith, add-one, subst, get_or-drop, length-drop, ⊎_elim}
use Rattle.std.proofs.lemmas.Bool.{or_from, cases_lt}
use Rattle.std.proofs.lemmas.Bool.Decides.{nat_tests}
use Rattle.std.proofs.lemmas.List.Folds.{list_any_more}
use Rattle.std.specs.List.{list_any}
use Rattle.iv_lines.proofs.PieceLemmas.{rest-whole}
use Rattle.iv_lines.proofs.BlockLemmas.{is_outside}
use Rattle.iv_fasta.specs.Inside.Fasta.{is_no_base}

-- the text begins with so many bases
abbrev pub BeginsWithBases : List ℕ → ℕ → Type 0
BeginsWithBases text n = (k : ℕ) → k < n → is_no_base (get_or text k 0) ≡ false

-- none of them is no base
pub all-bases : (text : List ℕ) (n : ℕ) → n ≤ length text → BeginsWithBases text n → list_any is_no_base (take n text) ≡ false
all-bases text zero le each = refl
all-bases text (suc n) le each =
    ap (λ k. list_any is_no_base (take k text)) (sym (add-one n))
    ∙ list_any_more is_no_base text n 0 (omega arith)
    ∙ or_from (list_any is_no_base (take n text)) (is_no_base (get_or text n 0)) (all-bases text n (omega arith) (λ k lt. each k (omega arith))) (each n (omega arith))

-- one more base
pub base-more : (text : List ℕ) (n : ℕ) → BeginsWithBases text n → is_no_base (get_or text n 0) ≡ false → BeginsWithBases text (n + 1)
base-more text n each is = λ k lt. ⊎_elim (λ low. each k low) (λ high. let same : n ≡ k = omega arith in subst (λ i. is_no_base (get_or text i 0) ≡ false) same is) (cases_lt k n)

-- how many bytes are after the first ones
pub length-after : (text : List ℕ) (n : ℕ) → length (take (length text - n) (drop n text)) ≡ length text - n
length-after text n = omega (arith, ap (λ (l : List ℕ). length l) (rest-whole text n), length-drop n text)

-- bases after bases
pub bases-more : (text : List ℕ) (n m : ℕ) → BeginsWithBases text n → BeginsWithBases (take (length text - n) (drop n text)) m → BeginsWithBases text (n + m)
bases-more text n m front back = λ k lt. ⊎_elim (λ low. front k low) (λ high.
    let there : n + (k - n) ≡ k = omega arith in
    ap is_no_base (ap (λ i. get_or text i 0) (sym there) ∙ sym (get_or-drop n text (k - n) 0) ∙ ap (λ (l : List ℕ). get_or l (k - n) 0) (sym (rest-whole text n)))
    ∙ back (k - n) (omega arith)) (cases_lt k n)

-- a base is at least 33, and at most 93 more
pub value-base : (b : ℕ) → b < 256 → is_outside 33 93 b ≡ false → is_no_base b ≡ false
value-base b byte small = grind (arith, nat_tests)
