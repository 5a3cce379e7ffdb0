-- The lines that `bstr` gives are those of the definition.
use Rattle.std.proofs.Common.{◌≢◌, ◌≡◌, ℕ, suc, ◌-◌, ◌<◌, Bool, true, false, ◌==◌, ◌&&◌, cond, nat_lt, List, [], ◌∷◌, ◌++◌, length, take, drop, map, slice_index, refl, sym, ◌∙◌, ap, arith, All}
use Rattle.std.proofs.lemmas.Bool.{and_parts, and_right, false≢true, cond-true, cond-false}
use Rattle.std.proofs.lemmas.Bool.{lt-ltb, ne_eqb}
use Rattle.std.proofs.lemmas.List.Elements.{All-head, All-tail}
use Rattle.std.specs.Io.BufRead.{strip_last}
use Rattle.std.specs.List.{onto_first}
use Rattle.bstr.specs.Text.{line_len, lines_of, no_cr, without_terminator}
use Rattle.bstr.proofs.lemmas.LineLemmas.{lines-nil, lines-step}
use Rattle.iv_lines.specs.Lines.{begins_with, lines, HasNoFeed}

no_cr-is : (x : ℕ) (xs : List ℕ) → no_cr (x ∷ xs) ≡ cond (slice_index (x ∷ xs) (length xs) == 13) (take (length xs) (x ∷ xs)) (x ∷ xs)
no_cr-is x xs =
    let e : suc (length xs) - 1 ≡ length xs = omega arith in
    let some : nat_lt 0 (suc (length xs)) ≡ true = lt-ltb 0 (suc (length xs)) (omega arith) in
    ap (λ t. cond (t && (slice_index (x ∷ xs) (suc (length xs) - 1) == 13)) (take (suc (length xs) - 1) (x ∷ xs)) (x ∷ xs)) some
    ∙ ap (λ n. cond (slice_index (x ∷ xs) n == 13) (take n (x ∷ xs)) (x ∷ xs)) e

end-is : (x : ℕ) (xs : List ℕ) → without_terminator (x ∷ xs) ≡ cond (slice_index (x ∷ xs) (length xs) == 10) (no_cr (take (length xs) (x ∷ xs))) (x ∷ xs)
end-is x xs =
    let e : suc (length xs) - 1 ≡ length xs = omega arith in
    let some : nat_lt 0 (suc (length xs)) ≡ true = lt-ltb 0 (suc (length xs)) (omega arith) in
    ap (λ t. cond (t && (slice_index (x ∷ xs) (suc (length xs) - 1) == 10)) (no_cr (take (suc (length xs) - 1) (x ∷ xs))) (x ∷ xs)) some
    ∙ ap (λ n. cond (slice_index (x ∷ xs) n == 10) (no_cr (take n (x ∷ xs))) (x ∷ xs)) e

onto : (t : Bool) (b : ℕ) (xs ys : List ℕ) → cond t (b ∷ xs) (b ∷ ys) ≡ b ∷ cond t xs ys
onto true b xs ys = refl
onto false b xs ys = refl

no_cr-onto : (b c : ℕ) (zs : List ℕ) → no_cr (b ∷ c ∷ zs) ≡ b ∷ no_cr (c ∷ zs)
no_cr-onto b c zs =
    no_cr-is b (c ∷ zs)
    ∙ onto (slice_index (c ∷ zs) (length zs) == 13) b (take (length zs) (c ∷ zs)) (c ∷ zs)
    ∙ ap (λ t. b ∷ t) (sym (no_cr-is c zs))

both : (s t : Bool) (b c : ℕ) → (t && s) ≡ false → cond s (cond t [] (b ∷ [])) (b ∷ c ∷ []) ≡ b ∷ cond s [] (c ∷ [])
both false t b c apart = refl
both true false b c apart = refl
both true true b c apart = cc

-- a byte in front of a line stays there, unless it is a carriage return and the line is a line feed alone
end-onto : (b c : ℕ) (fs : List ℕ) → ((b == 13) && (c == 10)) ≡ false → without_terminator (b ∷ c ∷ fs) ≡ b ∷ without_terminator (c ∷ fs)
end-onto b c [] apart =
    end-is b (c ∷ [])
    ∙ ap (λ t. cond (c == 10) t (b ∷ c ∷ [])) (no_cr-is b [])
    ∙ both (c == 10) (b == 13) b c apart
    ∙ ap (λ t. b ∷ t) (sym (end-is c []))
end-onto b c (f ∷ fs) apart =
    end-is b (c ∷ f ∷ fs)
    ∙ ap (λ t. cond (slice_index (c ∷ f ∷ fs) (suc (length fs)) == 10) t (b ∷ c ∷ f ∷ fs)) (no_cr-onto b c (take (length fs) (f ∷ fs)))
    ∙ onto (slice_index (c ∷ f ∷ fs) (suc (length fs)) == 10) b (no_cr (c ∷ take (length fs) (f ∷ fs))) (c ∷ f ∷ fs)
    ∙ ap (λ t. b ∷ t) (sym (end-is c (f ∷ fs)))

len-feed : (b : ℕ) (bs : List ℕ) → (b == 10) ≡ true → line_len (b ∷ bs) ≡ 1
unfolding line_len
len-feed b bs is = cond-true _ _ _ is

len-other : (b : ℕ) (bs : List ℕ) → (b == 10) ≡ false → line_len (b ∷ bs) ≡ suc (line_len bs)
unfolding line_len
len-other b bs is = cond-false _ _ _ is

len-nil : line_len [] ≡ 0
unfolding line_len
len-nil = refl

-- a line feed is a line
feed : (b : ℕ) (bs : List ℕ) → (b == 10) ≡ true → lines_of (b ∷ bs) ≡ (b ∷ []) ∷ lines_of bs
feed b bs is = lines-step (b ∷ bs) (omega arith) ∙ ap (λ n. take n (b ∷ bs) ∷ lines_of (drop n (b ∷ bs))) (len-feed b bs is)

-- another byte joins the first line of what follows
join : (b c : ℕ) (cs : List ℕ) → (b == 10) ≡ false → lines_of (b ∷ c ∷ cs) ≡ onto_first b (lines_of (c ∷ cs))
join b c cs is =
    lines-step (b ∷ c ∷ cs) (omega arith)
    ∙ ap (λ n. take n (b ∷ c ∷ cs) ∷ lines_of (drop n (b ∷ c ∷ cs))) (len-other b (c ∷ cs) is)
    ∙ ap (onto_first b) (sym (lines-step (c ∷ cs) (omega arith)))

-- or is a line
alone : (b : ℕ) → (b == 10) ≡ false → lines_of (b ∷ []) ≡ (b ∷ []) ∷ []
alone b is =
    lines-step (b ∷ []) (omega arith)
    ∙ ap (λ n. take n (b ∷ []) ∷ lines_of (drop n (b ∷ []))) (len-other b [] is ∙ ap suc len-nil)
    ∙ ap (λ t. (b ∷ []) ∷ t) lines-nil

-- the first line of some bytes begins with their first byte
first : (c : ℕ) (cs : List ℕ) → (fs : List ℕ) × (rest : List (List ℕ)) × (lines_of (c ∷ cs) ≡ (c ∷ fs) ∷ rest) × ((c == 10) ≡ true → fs ≡ [])
first c cs = by (c == 10) refl
  where
    by : (t : Bool) → (c == 10) ≡ t → (fs : List ℕ) × (rest : List (List ℕ)) × (lines_of (c ∷ cs) ≡ (c ∷ fs) ∷ rest) × ((c == 10) ≡ true → fs ≡ [])
    by true is = ([], lines_of cs, feed c cs is, λ _. refl)
    by false is = (
      take (line_len cs) cs,
      lines_of (drop (line_len cs) cs),
      lines-step (c ∷ cs) (omega arith) ∙ ap (λ n. take n (c ∷ cs) ∷ lines_of (drop n (c ∷ cs))) (len-other c cs is),
      λ at. absurd (false≢true (sym is ∙ at)),
    )

-- what is shown of each byte
step : (b : ℕ) (bs : List ℕ) → map without_terminator (lines_of bs) ≡ lines bs → (t : Bool) → (b == 10) ≡ t → (u : Bool) → ((b == 13) && begins_with 10 bs) ≡ u
    → map without_terminator (lines_of (b ∷ bs)) ≡ cond t ([] ∷ lines bs) (cond u (lines bs) (onto_first b (lines bs)))
step b bs rest true is u cr =
    ap (map without_terminator) (feed b bs is)
    ∙ ap (λ t. t ∷ map without_terminator (lines_of bs)) (end-is b [] ∙ cond-true _ _ _ is)
    ∙ ap (λ t. [] ∷ t) rest
step b [] rest false is true cr = absurd (false≢true (sym (and_right (b == 13) false refl) ∙ cr))
step b [] rest false is false cr =
    ap (map without_terminator) (alone b is) ∙ ap (λ t. t ∷ []) (end-is b [] ∙ cond-false _ _ _ is)
step b (c ∷ cs) rest false is true cr =
    let line = first c cs in
    let both = and_parts (b == 13) (c == 10) cr in
    let cr_is : (b == 13) ≡ true = both.0 in
    let feed_is : (c == 10) ≡ true = both.1 in
    let whole : lines_of (b ∷ c ∷ cs) ≡ (b ∷ c ∷ []) ∷ line.1 = join b c cs is ∙ ap (onto_first b) line.2 ∙ ap (λ t. (b ∷ c ∷ t) ∷ line.1) (line.3 feed_is) in
    let after : map without_terminator (lines_of (c ∷ cs)) ≡ [] ∷ map without_terminator line.1 =
    ap (map without_terminator) (line.2 ∙ ap (λ t. (c ∷ t) ∷ line.1) (line.3 feed_is)) ∙ ap (λ t. t ∷ map without_terminator line.1) (end-is c [] ∙ cond-true _ _ _ feed_is) in
    ap (map without_terminator) whole
    ∙ ap (λ t. t ∷ map without_terminator line.1) (end-is b (c ∷ []) ∙ cond-true _ _ _ feed_is ∙ no_cr-is b [] ∙ cond-true _ _ _ cr_is)
    ∙ sym after ∙ rest
step b (c ∷ cs) rest false is false cr =
    let line = first c cs in
    ap (map without_terminator) (join b c cs is ∙ ap (onto_first b) line.2)
    ∙ ap (λ t. t ∷ map without_terminator line.1) (end-onto b c line.0 cr)
    ∙ ap (onto_first b) (sym (ap (map without_terminator) line.2) ∙ rest)

-- bstr's lines are the lines
pub lines-is : (bs : List ℕ) → map without_terminator (lines_of bs) ≡ lines bs
lines-is [] = ap (map without_terminator) lines-nil
lines-is (b ∷ bs) = step b bs (lines-is bs) (b == 10) refl ((b == 13) && begins_with 10 bs) refl

-- ---- the lines of a text, one after another

pub not_feed : (b : ℕ) (bs : List ℕ) → HasNoFeed (b ∷ bs) → (b == 10) ≡ false
not_feed b bs plain = ne_eqb b 10 (All-head (λ x. x ≢ 10) b bs plain)

pub plain_rest : (b : ℕ) (bs : List ℕ) → HasNoFeed (b ∷ bs) → HasNoFeed bs
plain_rest b bs plain = All-tail (λ x. x ≢ 10) b bs plain

pub strip-is : (x : ℕ) (xs : List ℕ) → strip_last 13 (x ∷ xs) ≡ cond (slice_index (x ∷ xs) (length xs) == 13) (take (length xs) (x ∷ xs)) (x ∷ xs)
strip-is x xs = no_cr-is x xs

pub strip-more : (b c : ℕ) (bs : List ℕ) → strip_last 13 (b ∷ c ∷ bs) ≡ b ∷ strip_last 13 (c ∷ bs)
strip-more b c bs = no_cr-onto b c bs

-- bytes before the last aren't looked at
pub strip-front : (xs : List ℕ) (b : ℕ) (bs : List ℕ) → strip_last 13 (xs ++ b ∷ bs) ≡ xs ++ strip_last 13 (b ∷ bs)
strip-front [] b bs = refl
strip-front (x ∷ []) b bs = strip-more x b bs
strip-front (x ∷ y ∷ xs) b bs = strip-more x y (xs ++ b ∷ bs) ∙ ap (λ t. x ∷ t) (strip-front (y ∷ xs) b bs)

-- a line without a carriage return is kept
pub strip-kept : (xs : List ℕ) → All (λ b. b ≢ 13) xs → strip_last 13 xs ≡ xs
strip-kept [] none = refl
strip-kept (x ∷ []) none = strip-is x [] ∙ cond-false _ _ _ (ne_eqb x 13 (All-head (λ b. b ≢ 13) x [] none))
strip-kept (x ∷ y ∷ xs) none = strip-more x y xs ∙ ap (λ t. x ∷ t) (strip-kept (y ∷ xs) (All-tail (λ b. b ≢ 13) x (y ∷ xs) none))

-- a byte before a line feed is the line, unless it is a carriage return
line-one : (b : ℕ) (t : Bool) (rest : List (List ℕ)) → cond (t && true) ([] ∷ rest) (onto_first b ([] ∷ rest)) ≡ cond t [] (b ∷ []) ∷ rest
line-one b true rest = refl
line-one b false rest = refl

-- a line feed ends the first line
pub lines-line : (raw rest : List ℕ) → HasNoFeed raw → lines ((raw ++ 10 ∷ []) ++ rest) ≡ strip_last 13 raw ∷ lines rest
lines-line [] rest plain = refl
lines-line (b ∷ []) rest plain =
    cond-false _ _ _ (not_feed b [] plain)
    ∙ line-one b (b == 13) (lines rest)
    ∙ ap (λ l. l ∷ lines rest) (sym (strip-is b []))
lines-line (b ∷ c ∷ bs) rest plain =
    let later : HasNoFeed (c ∷ bs) = plain_rest b (c ∷ bs) plain in
    let none : ((b == 13) && (c == 10)) ≡ false = and_right (b == 13) (c == 10) (not_feed c bs later) in
    cond-false _ _ _ (not_feed b (c ∷ bs) plain)
    ∙ cond-false _ _ _ none
    ∙ ap (onto_first b) (lines-line (c ∷ bs) rest later)
    ∙ ap (λ l. l ∷ lines rest) (sym (strip-more b c bs))

-- the end of the text ends the last line
pub lines-last : (raw : List ℕ) → HasNoFeed raw → 0 < length raw → lines raw ≡ raw ∷ []
lines-last [] plain some = absurd (omega arith)
lines-last (b ∷ []) plain some =
    cond-false _ _ _ (not_feed b [] plain) ∙ cond-false _ _ _ (and_right (b == 13) false refl)
lines-last (b ∷ c ∷ bs) plain some =
    let later : HasNoFeed (c ∷ bs) = plain_rest b (c ∷ bs) plain in
    let none : ((b == 13) && (c == 10)) ≡ false = and_right (b == 13) (c == 10) (not_feed c bs later) in
    cond-false _ _ _ (not_feed b (c ∷ bs) plain)
    ∙ cond-false _ _ _ none
    ∙ ap (onto_first b) (lines-last (c ∷ bs) later (omega arith))
