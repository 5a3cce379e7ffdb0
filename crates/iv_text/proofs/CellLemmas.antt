-- The bytes of a cell, looked at one by one and together.
use Rattle.std.proofs.Common.{◌≡◌, ◌≢◌, ℕ, zero, suc, ◌+◌, ◌-◌, ◌%◌, ◌^◌, ◌<◌, ◌≤◌, Bool, false, ltb, List, [], ◌∷◌, length, take, get_or, map, sym, ap, subst, arith, add-one, replicate, w8}
use lib.Lanes.{zip2, mask_l, top}
use lib.Count.{count_trailing_zeros}
use mathlib.Core.Bool.{cond}
use Rattle.std.proofs.lemmas.Bool.Decides.{nat_tests}
use Rattle.std.proofs.lemmas.List.{take_more}
use Rattle.std.proofs.lemmas.List.Elements.{All-append, All-cons, All-nil}
use Rattle.std.proofs.lemmas.Simd.{length-chunk, bitmask_splat}
use Rattle.iv_text.specs.Inside.OnePass.{IsCell, ends_cell}
use Rattle.iv_lines.proofs.BlockLemmas.{before-lowest}

-- one more byte that no cell ends at
pub cell-more : (text : List ℕ) (k : ℕ) → k < length text → IsCell (take k text) → ends_cell (get_or text k 0) ≡ false → IsCell (take (k + 1) text)
cell-more text k within plain is =
    let Plain : ℕ → Type 0 = λ b. ends_cell b ≡ false in
    subst IsCell (sym (take_more text k 0 within))
    (All-append Plain (take k text) (get_or text k 0 ∷ []) plain (All-cons Plain (get_or text k 0) [] is (All-nil Plain)))

-- bytes at each index below n that no cell ends at
pub cell-below : (text : List ℕ) (n : ℕ) → n ≤ length text → ((k : ℕ) → k < n → ends_cell (get_or text k 0) ≡ false) → IsCell (take n text)
cell-below text zero le each = All-nil (λ b. ends_cell b ≡ false)
cell-below text (suc n) le each =
    subst IsCell (ap (λ k. take k text) (add-one n))
    (cell-more text n (omega arith) (cell-below text n (omega arith) (λ k lt. each k (omega arith))) (each n (omega arith)))

-- a control byte up to 13
abbrev pub is_control : ℕ → Bool
is_control b = ltb b 14

plain-byte : (b : ℕ) → is_control b ≡ false → ends_cell b ≡ false
plain-byte b is = grind (arith, nat_tests)

-- the mask of these bytes among the first sixteen
abbrev pub control_mask : List ℕ → ℕ
control_mask text = mask_l (map (top 7) (zip2 (λ a b. cond (ltb a b) (2 ^ 8 - 1) 0) (take 16 text) (replicate 16 14))) % 2 ^ 64

-- no cell ends before its lowest bit
pub cell-before : (text : List ℕ) → 16 ≤ length text → control_mask text ≢ 0
    → IsCell (take (count_trailing_zeros 64 (control_mask text)) text) × (count_trailing_zeros 64 (control_mask text) ≤ length text)
cell-before text long some =
    let before = before-lowest is_control text (control_mask text) long (bitmask_splat w8 ltb (take 16 text) 16 14 (length-chunk 0 16 text long) (omega arith)) some in
    let within : count_trailing_zeros 64 (control_mask text) ≤ length text = omega (arith, before.1) in
    (cell-below text (count_trailing_zeros 64 (control_mask text)) within (λ k lt. plain-byte (get_or text k 0) (before.0 k lt)), within)
