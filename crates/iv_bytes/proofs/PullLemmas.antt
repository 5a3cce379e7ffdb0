-- What a reader pulls, holds and gives on.
use Rattle.std.proofs.Common.{◌≡◌, ℕ, ◌+◌, ◌-◌, ◌≤◌, List, [], ◌++◌, length, take, drop, refl, sym, ap, ◌∙◌, arith, append_assoc, append-nil, take-append-drop, slice_range}
use Rattle.std.proofs.lemmas.List.{drop-drop, length-take-le}
use Rattle.std.proofs.lemmas.List.{drop-append-le, drop-take}
use Rattle.std.proofs.lemmas.Slice.{take-put_mid}
use borrow.Rule.Slice.PartMut.{put_mid}
use lib.Seq.{take_at}
use Rattle.std.proofs.KnownBytes.{Consumes-nil, Consumes-trans}
use Rattle.iv_bytes.specs.Sources.{SourceState, Reads}
use Rattle.iv_bytes.proofs.PutLemmas.{tail_is}

-- a piece of the bytes in memory was copied to the front of a buffer
pub copied_piece : (bytes into copied : List ℕ) (at n : ℕ) → n ≤ length bytes - at → length copied ≡ n
    → copied ≡ take n (take (length bytes - at) (drop at bytes))
    → drop at bytes ≡ take n (copied ++ drop n into) ++ drop (at + n) bytes
copied_piece bytes into copied at n fits long is =
    let front : take n (copied ++ drop n into) ≡ copied = take_at copied (drop n into) n long in
    let same : copied ≡ take n (drop at bytes) = is ∙ ap (take n) (tail_is at bytes) in
    rw (front, same, ← drop-drop n at bytes) (sym (take-append-drop n (drop at bytes)))

pub Reads-nothing : (held : List ℕ) (state : SourceState) → Reads held held state state []
Reads-nothing held state = record { pulled = []; from = Consumes-nil state.remaining; all = append-nil held }

pub Reads-append : (h1 h2 h3 : List ℕ) (s1 s2 s3 : SourceState) (a b : List ℕ)
    → Reads h1 h2 s1 s2 a → Reads h2 h3 s2 s3 b → Reads h1 h3 s1 s3 (a ++ b)
Reads-append h1 h2 h3 s1 s2 s3 a b first second = record {
  pulled = first.pulled ++ second.pulled;
  from = Consumes-trans s1.remaining s2.remaining s3.remaining first.pulled second.pulled first.from second.from;
  all = sym (append_assoc h1 first.pulled second.pulled) ∙ ap (λ (l : List ℕ). l ++ second.pulled) first.all
      ∙ append_assoc a h2 second.pulled ∙ ap (λ (l : List ℕ). a ++ l) second.all ∙ sym (append_assoc a b h3);
}

-- the first n bytes that are held are given on
pub Reads-skip : (held : List ℕ) (state : SourceState) (n : ℕ) → Reads held (drop n held) state state (take n held)
Reads-skip held state n = record { pulled = []; from = Consumes-nil state.remaining; all = append-nil held ∙ sym (take-append-drop n held) }

-- what is held after the first n bytes
pub held_skip : (chunk : List ℕ) (start end n : ℕ) → start + n ≤ end → slice_range chunk (start + n) end ≡ drop n (slice_range chunk start end)
held_skip chunk start end n fits =
    let long : end - start ≡ n + (end - (start + n)) = omega arith in
    rw (long, drop-take n (end - (start + n)) (drop start chunk), drop-drop n start chunk) refl

pub empty_range : (xs : List ℕ) (a b : ℕ) → a ≡ b → slice_range xs a b ≡ []
empty_range xs a b same =
    let none : b - a ≡ 0 = omega arith in rw none refl

-- a range is what a front has after its start
range_is : (xs : List ℕ) (a b : ℕ) → a ≤ b → slice_range xs a b ≡ drop a (take b xs)
range_is xs a b low =
    let long : b ≡ a + (b - a) = omega arith in
    let all : drop a (take (a + (b - a)) xs) ≡ take (b - a) (drop a xs) = drop-take a (b - a) xs in
    sym all ∙ ap (λ (n : ℕ). drop a (take n xs)) (sym long)

-- what is held after more bytes were written after the last
pub held_added : (chunk copied : List ℕ) (start end n : ℕ) → start ≤ end → end + n ≤ length chunk → length copied ≡ n
    → slice_range (put_mid end ((end + n) - end) chunk copied) start (end + n) ≡ slice_range chunk start end ++ copied
held_added chunk copied start end n low fits long =
    let above : start ≤ end + n = omega arith in
    let sum : end + n ≡ end + length copied = omega arith in
    let within : end ≤ length chunk = omega arith in
    let far : start ≤ length (take end chunk) = omega (arith, length-take-le end chunk within) in
    range_is (put_mid end ((end + n) - end) chunk copied) start (end + n) above
    ∙ ap (drop start) (take-put_mid end ((end + n) - end) chunk copied (end + n) sum within)
    ∙ drop-append-le start (take end chunk) copied far
    ∙ ap (λ (l : List ℕ). l ++ copied) (sym (range_is chunk start end low))
