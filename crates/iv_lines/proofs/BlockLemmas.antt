-- Sixteen bytes looked at together: those before the first for which a test holds, such as one that is outside a range.
use Rattle.std.proofs.Common.{◌≡◌, ◌≢◌, ℕ, ◌+◌, ◌-◌, ◌%◌, ◌^◌, ◌<◌, ◌≤◌, Bool, false, not, ltb, List, length, take, get_or, map, ap, sym, ◌∙◌, arith, replicate, w8}
use lib.Lanes.{chunk, zip2, mask_l, top}
use lib.Count.{count_trailing_zeros}
use mathlib.Core.Bool.{cond}
use Rattle.std.proofs.lemmas.List.{length-map}
use Rattle.std.proofs.lemmas.Simd.{length-chunk, length-zip2, zip2_splat, zip2_splat_left, tops_compared, mask_l-mod, map-map, trailing_mask_l, none_from_empty_mask, run_in_chunk_fails, run_in_chunk_le}
use Rattle.std.specs.List.{prefix_len}

-- the test holds for none of the bytes before the lowest bit of its mask, which are at most 16
pub before-lowest : (test : ℕ → Bool) (text : List ℕ) (mask : ℕ) → 16 ≤ length text → mask ≡ mask_l (map test (take 16 text)) → mask ≢ 0
    → ((k : ℕ) → k < count_trailing_zeros 64 mask → test (get_or text k 0) ≡ false) × (count_trailing_zeros 64 mask ≤ 16)
before-lowest test text mask long is some =
    let few : length (chunk 0 16 text) ≤ 64 = omega (arith, length-chunk 0 16 text long) in
    let counted : count_trailing_zeros 64 mask ≡ prefix_len (λ x. not (test x)) (chunk 0 16 text) =
    ap (count_trailing_zeros 64) is ∙ trailing_mask_l test 64 (chunk 0 16 text) few (omega (arith, is, some)) in
    (λ k lt. run_in_chunk_fails test text 0 16 (count_trailing_zeros 64 mask) 0 long counted k (omega arith) (omega arith), run_in_chunk_le test text 0 16 (count_trailing_zeros 64 mask) 0 long counted)

-- the byte is outside the range that begins at `low` and has `most` bytes after that
abbrev pub is_outside : ℕ → ℕ → ℕ → Bool
is_outside low most b = ltb most ((b + (2 ^ 8 - low)) % 2 ^ 8)

-- the mask of those of the first sixteen bytes
abbrev pub outside_mask : ℕ → ℕ → List ℕ → ℕ
outside_mask low most text =
    mask_l (map (top 7) (zip2 (λ a b. cond (ltb a b) (2 ^ 8 - 1) 0) (replicate 16 most) (zip2 (λ a b. (a + (2 ^ 8 - b)) % 2 ^ 8) (take 16 text) (replicate 16 low)))) % 2 ^ 64

outside-are : (low most : ℕ) (text : List ℕ) → 16 ≤ length text → outside_mask low most text ≡ mask_l (map (is_outside low most) (take 16 text))
outside-are low most text long =
    let bytes : List ℕ = take 16 text in
    let sixteen : length bytes ≡ 16 = length-chunk 0 16 text long in
    let values : List ℕ = zip2 (λ (a b : ℕ). (a + (2 ^ 8 - b)) % 2 ^ 8) bytes (replicate 16 low) in
    ap (λ ms. mask_l ms % 2 ^ 64)
    (tops_compared w8 ltb (replicate 16 most) values
    ∙ zip2_splat_left ltb most 16 values (length-zip2 (λ (a b : ℕ). (a + (2 ^ 8 - b)) % 2 ^ 8) bytes (replicate 16 low) sixteen ∙ sixteen)
    ∙ ap (map (ltb most)) (zip2_splat (λ (a b : ℕ). (a + (2 ^ 8 - b)) % 2 ^ 8) bytes 16 low sixteen)
    ∙ map-map (ltb most) (λ (b : ℕ). (b + (2 ^ 8 - low)) % 2 ^ 8) bytes)
    ∙ mask_l-mod (map (is_outside low most) bytes) 64 (omega (arith, length-map bytes (is_outside low most), sixteen))

-- none of the sixteen is outside
pub none-outside : (low most : ℕ) (text : List ℕ) → 16 ≤ length text → outside_mask low most text ≡ 0 → (k : ℕ) → k < 16 → is_outside low most (get_or text k 0) ≡ false
none-outside low most text long none k lt = none_from_empty_mask (is_outside low most) text 0 16 0 long (sym (outside-are low most text long) ∙ none) k (omega arith) lt

-- none of those before the first that is outside
pub before-outside : (low most : ℕ) (text : List ℕ) → 16 ≤ length text → outside_mask low most text ≢ 0
    → ((k : ℕ) → k < count_trailing_zeros 64 (outside_mask low most text) → is_outside low most (get_or text k 0) ≡ false) × (count_trailing_zeros 64 (outside_mask low most text) ≤ 16)
before-outside low most text long some = before-lowest (is_outside low most) text (outside_mask low most text) long (outside-are low most text long) some
