-- The sizes of lines, and the limits on them.
use Rattle.std.proofs.Common.{◌≡◌, ◌≢◌, ℕ, suc, ◌+◌, ◌≤◌, ◌<◌, ◌&&◌, ◌||◌, ◌==◌, Bool, true, false, cond, nat_lt, All, List, [], ◌∷◌, ◌++◌, length, Option, None, Some, refl, sym, ap, ◌∙◌, subst, inl, inr, ◌⊎◌, arith, append_assoc, append-nil, length-append}
use Rattle.std.proofs.lemmas.Bool.{false≢true, cond-true, cond-false, lt-ltb, le-ltb, or_right}
use Rattle.std.proofs.lemmas.List.Elements.{All-head, All-tail}
use Rattle.std.specs.List.{onto_first}
use Rattle.std.proofs.Math.Bool.{and-false}
use Rattle.std.proofs.lemmas.Option.{same_Some}
use Rattle.iv_lines.specs.Lines.{begins_with, lines, HasNoFeed}
use Rattle.iv_lines.proofs.LineLemmas.{not_feed, plain_rest}
use Rattle.iv_session.specs.Limits.{one_longer, line_sizes, AreWholeLines, AreWithin, Keeps, Passes, is_over, first_over}

-- ---- the sizes of a text's lines

-- an LF ends the first line
pub sizes-line : (raw rest : List ℕ) → HasNoFeed raw → line_sizes (raw ++ 10 ∷ rest) ≡ length raw ∷ line_sizes rest
sizes-line [] rest plain = refl
sizes-line (b ∷ bs) rest plain =
    let more : length bs + 1 ≡ length (b ∷ bs) = omega arith in
    cond-false _ _ _ (not_feed b bs plain)
    ∙ ap one_longer (sizes-line bs rest (plain_rest b bs plain))
    ∙ ap (λ (k : ℕ). k ∷ line_sizes rest) more

pub sizes-ended : (raw rest : List ℕ) → HasNoFeed raw → line_sizes ((raw ++ 10 ∷ []) ++ rest) ≡ length raw ∷ line_sizes rest
sizes-ended raw rest plain = ap line_sizes (append_assoc raw (10 ∷ []) rest) ∙ sizes-line raw rest plain

-- the end of the text ends the last line
pub sizes-last : (raw : List ℕ) → HasNoFeed raw → 0 < length raw → line_sizes raw ≡ length raw ∷ []
sizes-last [] plain some = absurd (omega arith)
sizes-last (b ∷ []) plain some = cond-false _ _ _ (not_feed b [] plain)
sizes-last (b ∷ c ∷ bs) plain some =
    let more : length (c ∷ bs) + 1 ≡ length (b ∷ c ∷ bs) = omega arith in
    cond-false _ _ _ (not_feed b (c ∷ bs) plain)
    ∙ ap one_longer (sizes-last (c ∷ bs) (plain_rest b (c ∷ bs) plain) (omega arith))
    ∙ ap (λ (k : ℕ). k ∷ []) more

longer-some : (sizes : List ℕ) → (first : ℕ) × (later : List ℕ) × (one_longer sizes ≡ first ∷ later) × (1 ≤ first)
longer-some [] = (1, [], refl, omega arith)
longer-some (size ∷ sizes) = (size + 1, sizes, refl, omega arith)

-- a text that is not empty has a line
pub sizes-some : (b : ℕ) (bs : List ℕ) → (first : ℕ) × (later : List ℕ) × (line_sizes (b ∷ bs) ≡ first ∷ later)
sizes-some b bs = by (b == 10)
  where
    by : (t : Bool) → (first : ℕ) × (later : List ℕ) × (cond t (0 ∷ line_sizes bs) (one_longer (line_sizes bs)) ≡ first ∷ later)
    by true = (0, line_sizes bs, refl)
    by false = let some = longer-some (line_sizes bs) in (some.0, some.1, some.2)

some-sizes : (text : List ℕ) → 0 < length text → 0 < length (line_sizes text)
some-sizes [] some = absurd (omega arith)
some-sizes (b ∷ bs) some =
    let first = sizes-some b bs in
    let size : length (line_sizes (b ∷ bs)) ≡ length (first.0 ∷ first.1) = ap length first.2 in
    omega (arith, size)

-- the first line has at least the bytes that are there without an LF
pub sizes-front : (part held : List ℕ) → HasNoFeed part → 0 < length part
    → (first : ℕ) × (later : List ℕ) × (line_sizes (part ++ held) ≡ first ∷ later) × (length part ≤ first)
sizes-front [] held plain some = absurd (omega arith)
sizes-front (b ∷ []) held plain some =
    let more = longer-some (line_sizes held) in
    (more.0, more.1, cond-false _ _ _ (not_feed b [] plain) ∙ more.2, omega (arith, more.3))
sizes-front (b ∷ c ∷ bs) held plain some =
    let more = sizes-front (c ∷ bs) held (plain_rest b (c ∷ bs) plain) (omega arith) in
    (more.0 + 1, more.1, cond-false _ _ _ (not_feed b (c ∷ bs) plain) ∙ ap one_longer more.2, omega (arith, more.3))

longer-append : (xs ys : List ℕ) → 0 < length xs → one_longer (xs ++ ys) ≡ one_longer xs ++ ys
longer-append [] ys some = absurd (omega arith)
longer-append (x ∷ xs) ys some = refl

-- one byte more in front
whole-step : (t : Bool) (all xs ys : List ℕ) → all ≡ xs ++ ys → 0 < length xs
    → cond t (0 ∷ all) (one_longer all) ≡ cond t (0 ∷ xs) (one_longer xs) ++ ys
whole-step true all xs ys is some = ap (λ (l : List ℕ). 0 ∷ l) is
whole-step false all xs ys is some = ap one_longer is ∙ longer-append xs ys some

sizes-whole : (front rest : List ℕ) → line_sizes (front ++ 10 ∷ rest) ≡ line_sizes (front ++ 10 ∷ []) ++ line_sizes rest
sizes-whole [] rest = refl
sizes-whole (b ∷ bs) rest =
    let size : length (bs ++ 10 ∷ []) ≡ length bs + 1 = length-append bs (10 ∷ []) in
    whole-step (b == 10) (line_sizes (bs ++ 10 ∷ rest)) (line_sizes (bs ++ 10 ∷ [])) (line_sizes rest) (sizes-whole bs rest)
    (some-sizes (bs ++ 10 ∷ []) (omega (arith, size)))

-- whole lines, and then more
pub whole-sizes : (front rest : List ℕ) → AreWholeLines front → line_sizes (front ++ rest) ≡ line_sizes front ++ line_sizes rest
whole-sizes front rest (inl none) =
    subst (λ (l : List ℕ). line_sizes (l ++ rest) ≡ line_sizes l ++ line_sizes rest) (sym none) refl
whole-sizes front rest (inr (bytes, is)) =
    subst (λ (l : List ℕ). line_sizes (l ++ rest) ≡ line_sizes l ++ line_sizes rest) (sym is)
    (ap line_sizes (append_assoc bytes (10 ∷ []) rest) ∙ sizes-whole bytes rest)

longer-length : (sizes : List ℕ) → 0 < length sizes → length (one_longer sizes) ≡ length sizes
longer-length [] some = absurd (omega arith)
longer-length (size ∷ sizes) some = refl

onto-length : (b : ℕ) (sizes : List ℕ) (texts : List (List ℕ)) → length sizes ≡ length texts
    → length (one_longer sizes) ≡ length (onto_first b texts)
onto-length b [] [] same = refl
onto-length b [] (text ∷ texts) same = absurd (omega (arith, same))
onto-length b (size ∷ sizes) [] same = absurd (omega (arith, same))
onto-length b (size ∷ sizes) (text ∷ texts) same = same

length-step : (b : ℕ) (bs : List ℕ) → length (line_sizes bs) ≡ length (lines bs) → (t u : Bool) → ((b == 13) && begins_with 10 bs) ≡ u
    → length (cond t (0 ∷ line_sizes bs) (one_longer (line_sizes bs))) ≡ length (cond t ([] ∷ lines bs) (cond u (lines bs) (onto_first b (lines bs))))
length-step b bs rest true u is = ap suc rest
length-step b [] rest false true is = absurd (false≢true (sym (and-false (b == 13)) ∙ is))
length-step b (c ∷ cs) rest false true is = longer-length (line_sizes (c ∷ cs)) (some-sizes (c ∷ cs) (omega arith)) ∙ rest
length-step b bs rest false false is = onto-length b (line_sizes bs) (lines bs) rest

-- there are as many sizes as lines
pub length-sizes : (text : List ℕ) → length (line_sizes text) ≡ length (lines text)
length-sizes [] = refl
length-sizes (b ∷ bs) = length-step b bs (length-sizes bs) (b == 10) ((b == 13) && begins_with 10 bs) refl

-- both lists have a first size, and that of the second is no smaller
record Grows (xs ys : List ℕ) : Type 0 where
  size : ℕ
  sizes : List ℕ
  grown : ℕ
  others : List ℕ
  is : xs ≡ size ∷ sizes
  are : ys ≡ grown ∷ others
  low : size ≤ grown

grows-step : (t : Bool) (xs ys : List ℕ) → Grows xs ys → Grows (cond t (0 ∷ xs) (one_longer xs)) (cond t (0 ∷ ys) (one_longer ys))
grows-step true xs ys g = record { size = 0; sizes = xs; grown = 0; others = ys; is = refl; are = refl; low = omega arith }
grows-step false xs ys g = record {
  size = g.size + 1;
  sizes = g.sizes;
  grown = g.grown + 1;
  others = g.others;
  is = ap one_longer g.is;
  are = ap one_longer g.are;
  low = omega (arith, g.low);
}

-- a line only grows if more comes after it
sizes-grow : (b : ℕ) (bs more : List ℕ) → Grows (line_sizes (b ∷ bs)) (line_sizes ((b ∷ bs) ++ more))
sizes-grow b [] more = by (b == 10)
  where
    by : (t : Bool) → Grows (cond t (0 ∷ []) (one_longer [])) (cond t (0 ∷ line_sizes more) (one_longer (line_sizes more)))
    by true = record { size = 0; sizes = []; grown = 0; others = line_sizes more; is = refl; are = refl; low = omega arith }
    by false =
        let some = longer-some (line_sizes more) in
        record { size = 1; sizes = []; grown = some.0; others = some.1; is = refl; are = some.2; low = some.3 }
sizes-grow b (c ∷ cs) more = grows-step (b == 10) (line_sizes (c ∷ cs)) (line_sizes ((c ∷ cs) ++ more)) (sizes-grow c cs more)

-- ---- a line that keeps the limits, and one that passes one

-- a part of a line, and nothing after it
pub keeps-part : (left most : ℕ) (part : List ℕ) → HasNoFeed part → length part ≤ most → (0 < length part → 0 < left)
    → Keeps left most 1 (line_sizes part)
keeps-part left most [] plain fits room = tt
keeps-part left most (b ∷ bs) plain fits room =
    let some : 0 < length (b ∷ bs) = omega arith in
    let one : 0 < left = room some in
    let low : 1 ≤ left = omega (arith, one) in
    subst (λ (l : List ℕ). Keeps left most 1 l) (sym (sizes-last (b ∷ bs) plain some)) (low, fits)

-- nothing is after a part of a line, or an LF
abbrev pub EndsPart : List ℕ → Type 0
EndsPart held = (held ≡ []) ⊎ ((later : List ℕ) × (held ≡ 10 ∷ later))

-- a part of a line after which it ends or nothing has come
pub keeps-ending : (left most : ℕ) (part held : List ℕ) → HasNoFeed part → length part ≤ most → 0 < left → EndsPart held
    → Keeps left most 1 (line_sizes (part ++ held))
keeps-ending left most part held plain fits room (inl none) =
    let whole : part ++ held ≡ part = ap (λ (l : List ℕ). part ++ l) none ∙ append-nil part in
    subst (λ (l : List ℕ). Keeps left most 1 (line_sizes l)) (sym whole) (keeps-part left most part plain fits (λ _. room))
keeps-ending left most part held plain fits room (inr (later, is)) =
    let sizes : line_sizes (part ++ held) ≡ length part ∷ line_sizes later =
    ap (λ (l : List ℕ). line_sizes (part ++ l)) is ∙ sizes-line part later plain in
    let low : 1 ≤ left = omega (arith, room) in
    subst (λ (l : List ℕ). Keeps left most 1 l) (sym sizes) (low, fits)

-- no line is left
pub passes-full : (left most : ℕ) (text : List ℕ) → 0 < length text → left ≡ 0 → Passes left most 1 (line_sizes text)
passes-full left most [] some none = absurd (omega arith)
passes-full left most (b ∷ bs) some none =
    let first = sizes-some b bs in
    let over : left < 1 = omega (arith, none) in
    subst (λ (l : List ℕ). Passes left most 1 l) (sym first.2) (inl over)

-- a part of a line that is too long already
pub passes-part : (left most : ℕ) (part held : List ℕ) → HasNoFeed part → most < length part
    → Passes left most 1 (line_sizes (part ++ held))
passes-part left most part held plain over =
    let some : 0 < length part = omega (arith, over) in
    let first = sizes-front part held plain some in
    let above : most < first.0 = omega (arith, over, first.3) in
    subst (λ (l : List ℕ). Passes left most 1 l) (sym first.2) (inr above)

-- the number of a line in the script, and among the lines that are left
pub keeps-numbered : (count left most_lines most : ℕ) (sizes : List ℕ) → count + left ≡ most_lines → Keeps left most 1 sizes
    → Keeps most_lines most (count + 1) sizes
keeps-numbered count left most_lines most [] counted keeps = tt
keeps-numbered count left most_lines most (size ∷ sizes) counted keeps = (omega (arith, counted, keeps.0), keeps.1)

pub passes-numbered : (count left most_lines most : ℕ) (sizes : List ℕ) → count + left ≡ most_lines → Passes left most 1 sizes
    → Passes most_lines most (count + 1) sizes
passes-numbered count left most_lines most [] counted passes = absurd passes
passes-numbered count left most_lines most (size ∷ sizes) counted (inl full) = inl (omega (arith, counted, full))
passes-numbered count left most_lines most (size ∷ sizes) counted (inr over) = inr over

-- a line that passes a limit does so whatever comes after
pub passes-more : (most_lines most n : ℕ) (given more : List ℕ) → Passes most_lines most n (line_sizes given)
    → Passes most_lines most n (line_sizes (given ++ more))
passes-more most_lines most n [] more passes = absurd passes
passes-more most_lines most n (b ∷ bs) more passes =
    let g = sizes-grow b bs more in
    subst (λ (l : List ℕ). Passes most_lines most n l) (sym g.are)
    (grown g.size g.grown g.sizes g.others g.low (subst (λ (l : List ℕ). Passes most_lines most n l) g.is passes))
  where
    grown : (size other : ℕ) (sizes others : List ℕ) → size ≤ other → Passes most_lines most n (size ∷ sizes)
        → Passes most_lines most n (other ∷ others)
    grown size other sizes others low (inl full) = inl full
    grown size other sizes others low (inr over) = inr (omega (arith, low, over))

-- ---- the first line that passes a limit

not-over : (most_lines most n size : ℕ) → n ≤ most_lines → size ≤ most → is_over most_lines most n size ≡ false
not-over most_lines most n size low fits =
    ap (λ (t : Bool). t || nat_lt most size) (le-ltb most_lines n low) ∙ le-ltb most size fits

over : (most_lines most n size : ℕ) → (most_lines < n) ⊎ (most < size) → is_over most_lines most n size ≡ true
over most_lines most n size (inl full) = ap (λ (t : Bool). t || nat_lt most size) (lt-ltb most_lines n full)
over most_lines most n size (inr long) = or_right (nat_lt most_lines n) (nat_lt most size) (lt-ltb most size long)

-- lines that keep the limits are gone over
pub over-after : (most_lines most n : ℕ) (xs ys : List ℕ) → All (λ size. size ≤ most) xs → n + length xs ≤ most_lines + 1
    → first_over most_lines most n (xs ++ ys) ≡ first_over most_lines most (n + length xs) ys
over-after most_lines most n [] ys fit few =
    let same : n ≡ n + 0 = omega arith in
    ap (λ (k : ℕ). first_over most_lines most k ys) same
over-after most_lines most n (x ∷ xs) ys fit few =
    let low : n ≤ most_lines = omega (arith, few) in
    let fewer : n + 1 + length xs ≤ most_lines + 1 = omega (arith, few) in
    let same : n + 1 + length xs ≡ n + length (x ∷ xs) = omega arith in
    cond-false _ _ _ (not-over most_lines most n x low (All-head (λ (size : ℕ). size ≤ most) x xs fit))
    ∙ over-after most_lines most (n + 1) xs ys (All-tail (λ (size : ℕ). size ≤ most) x xs fit) fewer
    ∙ ap (λ (k : ℕ). first_over most_lines most k ys) same

-- none of them passes one
pub over-none : (most_lines most : ℕ) (sizes : List ℕ) → AreWithin most_lines most sizes → first_over most_lines most 1 sizes ≡ None
over-none most_lines most sizes within =
    let few : 1 + length sizes ≤ most_lines + 1 = omega (arith, within.0) in
    ap (λ (l : List ℕ). first_over most_lines most 1 l) (sym (append-nil sizes))
    ∙ over-after most_lines most 1 sizes [] within.1 few

-- the first one does
pub over-first : (most_lines most n : ℕ) (sizes : List ℕ) → Passes most_lines most n sizes → first_over most_lines most n sizes ≡ Some n
over-first most_lines most n [] passes = absurd passes
over-first most_lines most n (size ∷ sizes) passes = cond-true _ _ _ (over most_lines most n size passes)

-- after lines that pass none
pub over-found : (most_lines most : ℕ) (front back : List ℕ) → AreWithin most_lines most front → Passes most_lines most (length front + 1) back
    → first_over most_lines most 1 (front ++ back) ≡ Some (length front + 1)
over-found most_lines most front back within passes =
    let few : 1 + length front ≤ most_lines + 1 = omega (arith, within.0) in
    let same : 1 + length front ≡ length front + 1 = omega arith in
    over-after most_lines most 1 front back within.1 few
    ∙ ap (λ (k : ℕ). first_over most_lines most k back) same
    ∙ over-first most_lines most (length front + 1) back passes

low-step : (t : Bool) (n m : ℕ) (later : Option ℕ) → (later ≡ Some m → n + 1 ≤ m) → cond t (Some n) later ≡ Some m → n ≤ m
low-step true n m later after is = let same : n ≡ m = same_Some n m is in omega (arith, same)
low-step false n m later after is = let low : n + 1 ≤ m = after is in omega (arith, low)

-- it is found at its number or after
pub over-low : (most_lines most n m : ℕ) (sizes : List ℕ) → first_over most_lines most n sizes ≡ Some m → n ≤ m
over-low most_lines most n m [] is = absurd (cc is)
over-low most_lines most n m (size ∷ sizes) is =
    low-step (is_over most_lines most n size) n m (first_over most_lines most (n + 1) sizes)
    (λ there. over-low most_lines most (n + 1) m sizes there) is

-- a line that keeps the limits is not the one
pub over-past : (most_lines most n m : ℕ) (sizes : List ℕ) → Keeps most_lines most n sizes
    → first_over most_lines most n sizes ≡ Some m → n < m
over-past most_lines most n m [] keeps is = absurd (cc is)
over-past most_lines most n m (size ∷ sizes) keeps is =
    let later : first_over most_lines most (n + 1) sizes ≡ Some m =
    sym (cond-false _ _ _ (not-over most_lines most n size keeps.0 keeps.1)) ∙ is in
    let low : n + 1 ≤ m = over-low most_lines most (n + 1) m sizes later in
    omega (arith, low)
