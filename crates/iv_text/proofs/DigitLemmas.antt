-- Bytes looked at together: which of sixteen are digits, what eight digits mean, and four bytes as one number.
use Rattle.std.proofs.Common.{fold, subst, ◌≡◌, ◌≢◌, ℕ, zero, suc, ◌+◌, ◌-◌, ◌*◌, ◌/◌, ◌%◌, ◌^◌, ◌<◌, ◌≤◌, Bool, true, false, ltb, List, [], ◌∷◌, ◌++◌, length, take, drop, length-take, Some, get_or, map, refl, sym, ap, ◌∙◌, arith, replicate, add-one}
use lib.Count.{count_trailing_zeros}
use Rattle.std.proofs.lemmas.Bool.Decides.{nat_tests}
use Rattle.std.proofs.lemmas.Grind.{common_steps}
use Rattle.std.proofs.lemmas.List.{take_more}
use Rattle.std.proofs.lemmas.List.Folds.{fold-map}
use Rattle.std.proofs.Math.Nat.{mul-add, mul_assoc, pow-succ'}
use Rattle.std.proofs.lemmas.List.Prefix.{front_from_reads}
use native.Mathlib.Nat.{div-div-eq-div-mul}
use Rattle.std.specs.Char.{is_ascii_digit}
use Rattle.std.specs.Str.{all_ascii_digits}
use Rattle.iv_lines.specs.Inside.Number.{decimal_from}
use Rattle.iv_text.specs.Inside.OnePass.{BeginsWithNumber}
use Rattle.iv_lines.proofs.BlockLemmas.{before-outside, is_outside, outside_mask}
use Rattle.iv_lines.proofs.NumberLemmas.{decimal-more, digit-bound, digits-more, number-is}
use Rattle.iv_text.proofs.OnePassLemmas.{parts-whole}

-- digits at each index below n are n digits in a row
pub digits-below : (text : List ℕ) (n : ℕ) → n ≤ length text → ((k : ℕ) → k < n → is_ascii_digit (get_or text k 0) ≡ true) → all_ascii_digits (take n text) ≡ true
digits-below text zero le each = refl
digits-below text (suc n) le each =
    ap (λ k. all_ascii_digits (take k text)) (sym (add-one n)) ∙ ap all_ascii_digits (take_more text n 0 (omega arith))
    ∙ digits-more (take n text) (get_or text n 0) (digits-below text n (omega arith) (λ k lt. each k (omega arith))) (each n (omega arith))

-- one more digit
pub number-more : (text : List ℕ) (k value : ℕ) → k < length text → value ≡ decimal_from 0 (take k text) → value * 10 + (get_or text k 0 - 48) ≡ decimal_from 0 (take (k + 1) text)
number-more text k value within is =
    ap (λ v. v * 10 + (get_or text k 0 - 48)) is ∙ sym (decimal-more 0 (take k text) (get_or text k 0)) ∙ sym (ap (decimal_from 0) (take_more text k 0 within))

-- digits that a text begins with, and the number that they mean
pub begins : (text : List ℕ) (n value : ℕ) → 0 < n → n ≤ 10 → n ≤ length text → ((k : ℕ) → k < n → is_ascii_digit (get_or text k 0) ≡ true) → value ≡ decimal_from 0 (take n text)
    → BeginsWithNumber text value (take (length text - n) (drop n text))
begins text n value some few within each is =
    (take n text, parts-whole text n, number-is (take n text) (omega (arith, length-take n text)) (omega (arith, length-take n text)) (digits-below text n within each) ∙ ap Some (sym is))

-- ---- sixteen bytes

-- only a digit's value is at most 9
value-digit : (b : ℕ) → b < 256 → is_outside 48 9 b ≡ false → is_ascii_digit b ≡ true
value-digit b byte small = grind (arith, nat_tests)

-- those before the first that is no digit
pub digits-before : (text : List ℕ) → 16 ≤ length text → ((k : ℕ) → get_or text k 0 < 256) → outside_mask 48 9 text ≢ 0
    → (k : ℕ) → k < count_trailing_zeros 64 (outside_mask 48 9 text) → is_ascii_digit (get_or text k 0) ≡ true
digits-before text long bytes some k lt = value-digit (get_or text k 0) (bytes k) ((before-outside 48 9 text long some).0 k lt)

-- ---- eight bytes

-- a digit is 48 and its value
digit-split : (b : ℕ) → is_ascii_digit b ≡ true → (b ≡ b - 48 + 48) × (b - 48 ≤ 9)
digit-split b is = let least : 48 ≤ b = grind (arith, nat_tests, is) in let most = digit-bound b is in (omega arith, omega arith)

-- what is in a word of eight values, each with the next one
abbrev pairs_of : ℕ → ℕ
pairs_of values = values * 10 + values / 256

-- every second pair, in decimal
abbrev pub eight_of : ℕ → ℕ
eight_of values = pairs_of values % 256 * 1000000 + pairs_of values / 65536 % 256 * 10000 + pairs_of values / 4294967296 % 256 * 100 + pairs_of values / 281474976710656 % 256

-- the lowest byte of a word, and what is above its two lowest bytes
two-lanes : (n x y rest : ℕ) → x < 256 → y < 256 → n ≡ x + 256 * (y + 256 * rest) → (n % 256 ≡ x) × (n / 65536 ≡ rest)
two-lanes n x y rest low next is = (omega arith, omega arith)

pairs-are : (p q r s t u v w values : ℕ) → p ≤ 9 → q ≤ 9 → r ≤ 9 → s ≤ 9 → t ≤ 9 → u ≤ 9 → v ≤ 9 → w ≤ 9
    → values ≡ p + 256 * (q + 256 * (r + 256 * (s + 256 * (t + 256 * (u + 256 * (v + 256 * w))))))
    → values * 10 + values / 256 ≡ (p * 10 + q) + 256 * ((q * 10 + r) + 256 * ((r * 10 + s) + 256 * ((s * 10 + t) + 256 * ((t * 10 + u) + 256 * ((u * 10 + v) + 256 * ((v * 10 + w) + 256 * (w * 10)))))))
pairs-are p q r s t u v w values hp hq hr hs ht hu hv hw is =
    let high : values / 256 ≡ q + 256 * (r + 256 * (s + 256 * (t + 256 * (u + 256 * (v + 256 * w))))) = omega arith in
    omega arith

eight-lanes : (p q r s t u v w n : ℕ) → p ≤ 9 → q ≤ 9 → r ≤ 9 → s ≤ 9 → t ≤ 9 → u ≤ 9 → v ≤ 9 → w ≤ 9
    → n ≡ (p * 10 + q) + 256 * ((q * 10 + r) + 256 * ((r * 10 + s) + 256 * ((s * 10 + t) + 256 * ((t * 10 + u) + 256 * ((u * 10 + v) + 256 * ((v * 10 + w) + 256 * (w * 10)))))))
    → (n % 256 * 1000000 + n / 65536 % 256 * 10000 + n / 4294967296 % 256 * 100 + n / 281474976710656 % 256
    ≡ (((((((0 * 10 + p) * 10 + q) * 10 + r) * 10 + s) * 10 + t) * 10 + u) * 10 + v) * 10 + w)
    × (n % 256 * 1000000 + n / 65536 % 256 * 10000 + n / 4294967296 % 256 * 100 + n / 281474976710656 % 256 < 10 ^ 8)
eight-lanes p q r s t u v w n hp hq hr hs ht hu hv hw is =
    let one = two-lanes n (p * 10 + q) (q * 10 + r) ((r * 10 + s) + 256 * ((s * 10 + t) + 256 * ((t * 10 + u) + 256 * ((u * 10 + v) + 256 * ((v * 10 + w) + 256 * (w * 10)))))) (omega arith) (omega arith) is in
    let two = two-lanes (n / 65536) (r * 10 + s) (s * 10 + t) ((t * 10 + u) + 256 * ((u * 10 + v) + 256 * ((v * 10 + w) + 256 * (w * 10)))) (omega arith) (omega arith) one.1 in
    let three = two-lanes (n / 65536 / 65536) (t * 10 + u) (u * 10 + v) ((v * 10 + w) + 256 * (w * 10)) (omega arith) (omega arith) two.1 in
    let four : n / 65536 / 65536 / 65536 % 256 ≡ v * 10 + w = omega (arith, three.1) in
    let at_three : n / 4294967296 % 256 ≡ t * 10 + u = ap (λ m. m % 256) (div-div-eq-div-mul' n 65536 65536) ∙ three.0 in
    let at_four : n / 281474976710656 % 256 ≡ v * 10 + w = ap (λ m. m % 256) (div-div-eq-div-mul' n 4294967296 65536 ∙ ap (λ m. m / 65536) (div-div-eq-div-mul' n 65536 65536)) ∙ four in
    let first = one.0 in
    let second = two.0 in
    (sums p q r s t u v w _ _ _ _ first second at_three at_four, small p q r s t u v w _ _ _ _ hp hq hr hs ht hu hv hw first second at_three at_four)
  where
    div-div-eq-div-mul' : (n a b : ℕ) → n / (a * b) ≡ n / a / b
    div-div-eq-div-mul' n a b = sym (div-div-eq-div-mul n a b)

    sums : (p q r s t u v w i j k l : ℕ) → i ≡ p * 10 + q → j ≡ r * 10 + s → k ≡ t * 10 + u → l ≡ v * 10 + w
        → i * 1000000 + j * 10000 + k * 100 + l ≡ (((((((0 * 10 + p) * 10 + q) * 10 + r) * 10 + s) * 10 + t) * 10 + u) * 10 + v) * 10 + w
    sums p q r s t u v w i j k l e1 e2 e3 e4 = omega arith

    small : (p q r s t u v w i j k l : ℕ) → p ≤ 9 → q ≤ 9 → r ≤ 9 → s ≤ 9 → t ≤ 9 → u ≤ 9 → v ≤ 9 → w ≤ 9 → i ≡ p * 10 + q → j ≡ r * 10 + s → k ≡ t * 10 + u → l ≡ v * 10 + w
        → i * 1000000 + j * 10000 + k * 100 + l < 10 ^ 8
    small p q r s t u v w i j k l hp hq hr hs ht hu hv hw e1 e2 e3 e4 = omega arith

-- bytes as one number, the first one lowest
abbrev word_of : List ℕ → ℕ
word_of [] = 0
word_of (b ∷ bs) = b + 256 * word_of bs

-- the value of a digit
abbrev value : ℕ → ℕ
value b = b - 48

power-more : (n w : ℕ) → 256 ^ suc n * w ≡ 256 * (256 ^ n * w)
power-more n w = ap (λ p. p * w) (pow-succ' 256 n) ∙ mul_assoc 256 (256 ^ n) w

-- the first bytes of a word, and those after them
word-parts : (bs : List ℕ) (n k : ℕ) → n ≤ k → k ≤ length bs → ((j : ℕ) → get_or bs j 0 < 256)
    → (word_of (take k bs) ≡ word_of (take n bs) + 256 ^ n * word_of (drop n (take k bs))) × (word_of (take n bs) < 256 ^ n)
word-parts bs zero k below within bytes = (omega arith, omega arith)
word-parts bs (suc n) zero below within bytes = absurd (omega arith)
word-parts [] (suc n) (suc k) below within bytes = absurd (omega arith)
word-parts (b ∷ bs) (suc n) (suc k) below within bytes =
    let rest = word-parts bs n k (omega arith) (omega arith) (λ j. bytes (suc j)) in
    let here = bytes 0 in
    (omega (arith, rest.0, power-more n (word_of (drop n (take k bs)))), omega (arith, rest.1, here, power-more n 1))

-- digits are 48 and their values
digits-word : (bs : List ℕ) (n : ℕ) → n ≤ length bs → ((k : ℕ) → k < n → is_ascii_digit (get_or bs k 0) ≡ true) → word_of (take n bs) ≡ word_of (map value (take n bs)) + word_of (replicate n 48)
digits-word bs zero le digits = refl
digits-word [] (suc n) le digits = absurd (omega arith)
digits-word (b ∷ bs) (suc n) le digits =
    let rest = digits-word bs n (omega arith) (λ k lt. digits (suc k) (omega arith)) in
    let here = digit-split b (digits 0 (omega arith)) in
    omega (arith, rest, here.0)

-- the values of digits, with zeros before them
abbrev padded : List ℕ → ℕ → ℕ → List ℕ
padded bs n m = replicate m 0 ++ map value (take n bs)

padded-word : (bs : List ℕ) (n m : ℕ) → word_of (padded bs n m) ≡ 256 ^ m * word_of (map value (take n bs))
padded-word bs n zero = omega arith
padded-word bs n (suc m) = let rest = padded-word bs n m in omega (arith, rest, power-more m (word_of (map value (take n bs))))

padded-decimal : (bs : List ℕ) (n m : ℕ) → fold (λ n v. n * 10 + v) 0 (padded bs n m) ≡ decimal_from 0 (take n bs)
padded-decimal bs n zero = fold-map (λ n v. n * 10 + v) value 0 (take n bs)
padded-decimal bs n (suc m) = padded-decimal bs n m

padded-length : (bs : List ℕ) (n m : ℕ) → n ≤ length bs → length (padded bs n m) ≡ m + n
padded-length bs n m le = grind (arith, common_steps)

padded-small : (bs : List ℕ) (n m : ℕ) → n ≤ length bs → ((k : ℕ) → k < n → is_ascii_digit (get_or bs k 0) ≡ true) → (k : ℕ) → get_or (padded bs n m) k 0 ≤ 9
padded-small bs n (suc m) le digits zero = omega arith
padded-small bs n (suc m) le digits (suc k) = padded-small bs n m le digits k
padded-small bs zero zero le digits k = omega arith
padded-small [] (suc n) zero le digits k = absurd (omega arith)
padded-small (b ∷ bs) (suc n) zero le digits zero = (digit-split b (digits 0 (omega arith))).1
padded-small (b ∷ bs) (suc n) zero le digits (suc k) = padded-small bs n zero (omega arith) (λ j lt. digits (suc j) (omega arith)) k

-- a word without the bytes after its first ones, which are moved up to its end
abbrev pub moved : ℕ → ℕ → ℕ
moved n word = word * 2 ^ (64 - 8 * n) % 18446744073709551616

moved-is : (n front rest : ℕ) → 0 < n → n ≤ 8 → front < 256 ^ n → moved n (front + 256 ^ n * rest) ≡ 256 ^ (8 - n) * front
moved-is zero front rest some few low = absurd (omega arith)
moved-is (suc (suc (suc (suc (suc (suc (suc (suc (suc n))))))))) front rest some few low = absurd (omega arith)
moved-is n front rest some few low = omega arith

zeros-moved : (n : ℕ) → 0 < n → n ≤ 8 → moved n 3472328296227680304 ≡ 256 ^ (8 - n) * word_of (replicate n 48)
zeros-moved zero some few = absurd (omega arith)
zeros-moved (suc (suc (suc (suc (suc (suc (suc (suc (suc n))))))))) some few = absurd (omega arith)
zeros-moved n some few = refl

-- eight values add up to what they mean
eight-is : (vs : List ℕ) → length vs ≡ 8 → ((k : ℕ) → get_or vs k 0 ≤ 9) → (word_of vs ≤ 651061555542690057) × (eight_of (word_of vs) ≡ fold (λ n v. n * 10 + v) 0 vs) × (eight_of (word_of vs) < 10 ^ 8)
eight-is (p ∷ q ∷ r ∷ s ∷ t ∷ u ∷ v ∷ w ∷ []) is small =
    let hp = small 0 in
    let hq = small 1 in
    let hr = small 2 in
    let hs = small 3 in
    let ht = small 4 in
    let hu = small 5 in
    let hv = small 6 in
    let hw = small 7 in
    let word : ℕ = word_of (p ∷ q ∷ r ∷ s ∷ t ∷ u ∷ v ∷ w ∷ []) in
    let sums = eight-lanes p q r s t u v w (pairs_of word) hp hq hr hs ht hu hv hw (pairs-are p q r s t u v w word hp hq hr hs ht hu hv hw (omega arith)) in
    (omega arith, sums.0, sums.1)
eight-is vs is small = absurd (omega arith)

-- the moved word less moved zeros, for a word that begins with so many digits: it is a number, small enough to be added up, and
-- means what the digits do
pub record AddsUp (text : List ℕ) (n word : ℕ) : Type 0 where
  pub no_less : moved n 3472328296227680304 ≤ moved n word
  pub low : moved n word - moved n 3472328296227680304 ≤ 651061555542690057
  pub value : eight_of (moved n word - moved n 3472328296227680304) ≡ decimal_from 0 (take n text)
  pub small : eight_of (moved n word - moved n 3472328296227680304) < 10 ^ 8

word-is : (text : List ℕ) (word : ℕ) → 8 ≤ length text
    → word ≡ get_or text 0 0 + get_or text 1 0 * 256 + get_or text 2 0 * 65536 + get_or text 3 0 * 16777216 + get_or text 4 0 * 4294967296 + get_or text 5 0 * 1099511627776 + get_or text 6 0 * 281474976710656 + get_or text 7 0 * 72057594037927936
    → word ≡ word_of (take 8 text)
word-is (a ∷ b ∷ c ∷ d ∷ e ∷ f ∷ g ∷ h ∷ rest) word long is = omega (arith, is)
word-is text word long is = absurd (omega arith)

pub adds_up : (text : List ℕ) (n word : ℕ) → 8 ≤ length text → 0 < n → n ≤ 8 → ((k : ℕ) → get_or text k 0 < 256) → ((k : ℕ) → k < n → is_ascii_digit (get_or text k 0) ≡ true)
    → word ≡ get_or text 0 0 + get_or text 1 0 * 256 + get_or text 2 0 * 65536 + get_or text 3 0 * 16777216 + get_or text 4 0 * 4294967296 + get_or text 5 0 * 1099511627776 + get_or text 6 0 * 281474976710656 + get_or text 7 0 * 72057594037927936
    → AddsUp text n word
adds_up text n word long some few bytes digits is =
    let parts = word-parts text n 8 few long bytes in
    let values : List ℕ = padded text n (8 - n) in
    let up : moved n word ≡ 256 ^ (8 - n) * word_of (take n text) =
    ap (moved n) (word-is text word long is ∙ parts.0) ∙ moved-is n (word_of (take n text)) (word_of (drop n (take 8 text))) some few parts.1 in
    let split : 256 ^ (8 - n) * word_of (take n text) ≡ 256 ^ (8 - n) * word_of (map value (take n text)) + 256 ^ (8 - n) * word_of (replicate n 48) =
    ap (λ w. 256 ^ (8 - n) * w) (digits-word text n (omega arith) digits) ∙ mul-add (256 ^ (8 - n)) (word_of (map value (take n text))) (word_of (replicate n 48)) in
    let whole : moved n word ≡ moved n 3472328296227680304 + word_of values = omega (arith, up, split, zeros-moved n some few, padded-word text n (8 - n)) in
    let less : moved n word - moved n 3472328296227680304 ≡ word_of values = omega (arith, whole) in
    let sums = eight-is values (padded-length text n (8 - n) (omega arith) ∙ omega arith) (padded-small text n (8 - n) (omega arith) digits) in
    record {
      no_less = omega (arith, whole);
      low = omega (arith, less, sums.0);
      value = ap eight_of less ∙ sums.1 ∙ padded-decimal text n (8 - n);
      small = subst (λ v. eight_of v < 10 ^ 8) (sym less) sums.2;
    }

-- ---- four bytes

-- each byte of a word
pub word-byte : (text : List ℕ) (at word : ℕ) → ((k : ℕ) → get_or text k 0 < 256) → word ≡ get_or text at 0 + get_or text (at + 1) 0 * 256 + get_or text (at + 2) 0 * 65536 + get_or text (at + 3) 0 * 16777216
    → (k : ℕ) → k < 4 → get_or text (at + k) 0 ≡ word / 256 ^ k % 256
word-byte text at word byte is zero lt =
    let low = byte at in
    ap (λ k. get_or text k 0) (let same : at + 0 ≡ at = omega arith in same) ∙ omega arith
word-byte text at word byte is (suc zero) lt = let low = byte at in let next = byte (at + 1) in omega arith
word-byte text at word byte is (suc (suc zero)) lt = let low = byte at in let next = byte (at + 1) in let third = byte (at + 2) in omega arith
word-byte text at word byte is (suc (suc (suc zero))) lt = let low = byte at in let next = byte (at + 1) in let third = byte (at + 2) in let last = byte (at + 3) in omega arith
word-byte text at word byte is (suc (suc (suc (suc k)))) lt = absurd (omega arith)

-- if two words are equal, so are their bytes
pub words-same : (xs ys : List ℕ) (at n m : ℕ) → ((k : ℕ) → k < 4 → get_or xs (at + k) 0 ≡ n / 256 ^ k % 256) → ((k : ℕ) → k < 4 → get_or ys (at + k) 0 ≡ m / 256 ^ k % 256) → n ≡ m
    → (k : ℕ) → at ≤ k → k < at + 4 → get_or xs k 0 ≡ get_or ys k 0
words-same xs ys at n m of_xs of_ys same k from to =
    let place : at + (k - at) ≡ k = omega arith in
    ap (λ i. get_or xs i 0) (sym place) ∙ of_xs (k - at) (omega arith) ∙ ap (λ w. w / 256 ^ (k - at) % 256) same ∙ sym (of_ys (k - at) (omega arith)) ∙ ap (λ i. get_or ys i 0) place

-- a name's first four bytes and its last four are the whole name
pub named-by-words : (line name : List ℕ) → 4 ≤ length name → length name ≤ 8 → length name ≤ length line
    → ((k : ℕ) → 0 ≤ k → k < 0 + 4 → get_or line k 0 ≡ get_or name k 0) → ((k : ℕ) → length name - 4 ≤ k → k < length name - 4 + 4 → get_or line k 0 ≡ get_or name k 0)
    → line ≡ name ++ take (length line - length name) (drop (length name) line)
named-by-words line name some few within first last =
    front_from_reads 0 line name within (λ k lt. by k lt (ltb k 4) refl) ∙ ap (λ t. name ++ t) (sym whole)
  where
    whole : take (length line - length name) (drop (length name) line) ≡ drop (length name) line
    whole = grind (arith, common_steps)

    by : (k : ℕ) → k < length name → (t : Bool) → ltb k 4 ≡ t → get_or line k 0 ≡ get_or name k 0
    by k lt true e = first k (omega arith) (grind (arith, nat_tests, e))
    by k lt false e = let high : 4 ≤ k = grind (arith, nat_tests, e) in last k (omega arith) (omega arith)
