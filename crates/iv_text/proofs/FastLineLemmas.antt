-- A line of a record at the front of a text.
use Rattle.std.proofs.Common.{◌≢◌, ◌≡◌, ℕ, ◌+◌, ◌-◌, ◌<◌, ◌≤◌, Bool, true, false, not, nat_le, nat_lt, ◌==◌, ◌||◌, ◌⊎◌, inl, inr, ◌&&◌, List, [], ◌∷◌, ◌++◌, Option, None, Some, unwrap_or, slice_get, length, take, drop, get_or, refl, sym, ap, subst, ◌∙◌, arith, append_assoc, codes, append-nil}
use Rattle.std.proofs.lemmas.Bool.{and_parts, false≢true, leb-false, leb-true, ne_eqb, false_from_ne_true, not-true, or_from, or_parts}
use Rattle.std.proofs.lemmas.Bool.Decides.{nat_tests}
use Rattle.std.proofs.lemmas.Grind.{common_steps}
use Rattle.std.proofs.lemmas.Option.{slice_get_within}
use Rattle.std.proofs.lemmas.List.Elements.{All-nil, All-cons, All-append, All-head, All-tail}
use Rattle.std.proofs.lemmas.Slice.Eq.{bytes_eq-Decides}
use Rattle.std.specs.Borrow.{Bor}
use Rattle.std.specs.Prelude.{All, IfSome, IsSome}
use Rattle.std.specs.List.{list_any}
use Rattle.std.specs.Char.{is_ascii_digit}
use Rattle.std.specs.Io.BufRead.{strip_last}
use Rattle.std.specs.Option.{is_some, option_map}
use Rattle.std.specs.Str.{all_ascii_digits, bytes_eq}
use Rattle.iv_lines.proofs.LineLemmas.{strip-is, lines-line, strip-front, strip-kept}
use Rattle.iv_lines.proofs.NumberLemmas.{number-digits}
use Rattle.iv_lines.proofs.FieldLemmas.{column-last, column-more}
use Rattle.iv_text.proofs.OnePassLemmas.{line-read}
use Rattle.iv_lines.proofs.JoinedLemmas.{cells-are}
use Rattle.iv_lines.specs.Fields.{columns}
use Rattle.iv_lines.specs.Inside.Rests.{record_with}
use Rattle.iv_lines.specs.RecordText.{joined_record, rest_text}
use Rattle.iv_text.specs.BedFile.{is_skipped_line, is_headed}
use Rattle.iv_lines.specs.Inside.Fields.{HasNoTab, is_separator, ArePassed}
use Rattle.iv_lines.specs.Genome.{Sequences, length_at}
use Rattle.iv_lines.specs.Lines.{lines, HasNoFeed, begins_with}
use Rattle.iv_text.specs.Inside.OnePass.{BeginsWithInterval, BeginsWithCell, BeginsWithCells, BeginsWithRest, IsCell, ends_cell, laid}
use Rattle.iv_lines.specs.Read.{AreSoundColumns, bad_text}
use Rattle.iv_lines.specs.Inside.Read.{AreCells, is_line_byte}
use Rattle.iv_lines.specs.RecordValue.{strand_of}
use Rattle.iv_text.specs.Inside.FastLine.{IsFastLine}
use Rattle.iv_lines.specs.declared.interval.Interval.{Interval}
use Rattle.iv_lines.specs.declared.record_ref.Strand.{Strand}

-- ---- bytes that are no end of a line

digit-other : (b c : ℕ) → is_ascii_digit b ≡ true → is_ascii_digit c ≡ false → b ≢ c
digit-other b c is other e = false≢true (sym other ∙ ap is_ascii_digit (sym e) ∙ is)

-- a byte that is no digit is not among digits
digits-without : (z : ℕ) (ds : List ℕ) → is_ascii_digit z ≡ false → all_ascii_digits ds ≡ true → All (λ b. b ≢ z) ds
digits-without z [] other all = All-nil (λ b. b ≢ z)
digits-without z (d ∷ ds) other all =
    let both = and_parts (is_ascii_digit d) (all_ascii_digits ds) all in
    All-cons (λ b. b ≢ z) d ds (digit-other d z both.0 other) (digits-without z ds other both.1)

tab-feed : (xs : List ℕ) → HasNoFeed xs → HasNoFeed (9 ∷ xs)
tab-feed xs plain = All-cons (λ b. b ≢ 10) 9 xs (λ e. omega (arith, e)) plain

-- ---- a name that is no header, and a TAB after it

at-tab : (name rest : List ℕ) → get_or (name ++ 9 ∷ rest) (length name) 0 ≡ 9
at-tab [] rest = refl
at-tab (b ∷ bs) rest = at-tab bs rest

tab-seen : (word name rest : List ℕ) → HasNoTab word → name ++ 9 ∷ rest ≡ word → ⊥
tab-seen word name rest plain is =
    let within : length name < length word = grind (arith, common_steps, ap (length {A = ℕ}) is) in
    let seen : get_or word (length name) 0 ≡ 9 = ap (λ t. get_or t (length name) 0) (sym is) ∙ at-tab name rest in
    false≢true (sym (plain (length name) 0 within) ∙ ap (is_separator 9) seen)

tab-taken : (word name rest : List ℕ) (n : ℕ) → HasNoTab word → length name < n → word ≡ take n (name ++ 9 ∷ rest) → ⊥
tab-taken word name rest n plain more is =
    let within : length name < length word = grind (arith, common_steps, ap (length {A = ℕ}) is) in
    let seen : get_or word (length name) 0 ≡ 9 = ap (λ t. get_or t (length name) 0) is ∙ grind (arith, common_steps) ∙ at-tab name rest in
    false≢true (sym (plain (length name) 0 within) ∙ ap (is_separator 9) seen)

headed-after : (word name rest : List ℕ) → HasNoTab word → HasNoTab (word ++ codes " ") → is_headed word name ≡ false → is_headed word (name ++ 9 ∷ rest) ≡ false
headed-after word name rest plain spaced other =
    let line : List ℕ = name ++ 9 ∷ rest in
    let n : ℕ = length word + 1 in
    let apart = or_parts (bytes_eq name word) (bytes_eq (word ++ codes " ") (take n name)) other in
    let not_word : bytes_eq line word ≡ false = false_from_ne_true (bytes_eq line word) (λ same. tab-seen word name rest plain ((bytes_eq-Decides line word).0 same)) in
    let not_front : bytes_eq (word ++ codes " ") (take n line) ≡ false = front (nat_lt (length name) n) refl apart.1 in
    or_from (bytes_eq line word) (bytes_eq (word ++ codes " ") (take n line)) not_word not_front
  where
    taken : length word + 1 ≤ length name → take (length word + 1) (name ++ 9 ∷ rest) ≡ take (length word + 1) name
    taken long = grind (arith, common_steps)

    front : (t : Bool) → nat_lt (length name) (length word + 1) ≡ t → bytes_eq (word ++ codes " ") (take (length word + 1) name) ≡ false → bytes_eq (word ++ codes " ") (take (length word + 1) (name ++ 9 ∷ rest)) ≡ false
    front true short differ = false_from_ne_true (bytes_eq (word ++ codes " ") (take (length word + 1) (name ++ 9 ∷ rest))) (λ same.
        tab-taken (word ++ codes " ") name rest (length word + 1) spaced (grind (arith, nat_tests, short)) ((bytes_eq-Decides (word ++ codes " ") (take (length word + 1) (name ++ 9 ∷ rest))).0 same))
    front false long differ = ap (bytes_eq (word ++ codes " ")) (taken (grind (arith, nat_tests, long))) ∙ differ

no_tab : List ℕ → Bool
no_tab [] = true
no_tab (b ∷ bs) = not (is_separator 9 b) && no_tab bs

no_tab-plain : (bs : List ℕ) → no_tab bs ≡ true → HasNoTab bs
unfolding no_tab
no_tab-plain [] h = All-nil (λ b. is_separator 9 b ≡ false)
no_tab-plain (b ∷ bs) h =
    let both = and_parts (not (is_separator 9 b)) (no_tab bs) h in
    All-cons (λ c. is_separator 9 c ≡ false) b bs (not-true (is_separator 9 b) both.0) (no_tab-plain bs both.1)

-- a line that begins with a name that is no header, and a TAB, is none
unread-after : (name rest : List ℕ) → is_skipped_line name ≡ false → is_skipped_line (name ++ 9 ∷ rest) ≡ false
unfolding no_tab
unread-after [] rest other = cc
unread-after (b ∷ bs) rest other =
    let name : List ℕ = b ∷ bs in
    let line : List ℕ = name ++ 9 ∷ rest in
    let first = or_parts ((length name == 0) || begins_with 35 name || is_headed (codes "track") name) (is_headed (codes "browser") name) other in
    let second = or_parts ((length name == 0) || begins_with 35 name) (is_headed (codes "track") name) first.0 in
    let third = or_parts (length name == 0) (begins_with 35 name) second.0 in
    or_from ((length line == 0) || begins_with 35 line || is_headed (codes "track") line) (is_headed (codes "browser") line)
    (or_from ((length line == 0) || begins_with 35 line) (is_headed (codes "track") line)
    (or_from (length line == 0) (begins_with 35 line) (ne_eqb (length line) 0 (λ e. omega (arith, e))) third.1)
    (headed-after (codes "track") name rest (no_tab-plain (codes "track") refl) (no_tab-plain (codes "track" ++ codes " ") refl) second.1))
    (headed-after (codes "browser") name rest (no_tab-plain (codes "browser") refl) (no_tab-plain (codes "browser" ++ codes " ") refl) first.1)

-- ---- the line

-- the columns of an interval, with no rest
abbrev place_line : List ℕ → List ℕ → List ℕ → List ℕ
place_line name starts stops = name ++ 9 ∷ (starts ++ 9 ∷ stops)

place-parts : (name starts stops rest : List ℕ) → name ++ 9 ∷ (starts ++ 9 ∷ (stops ++ rest)) ≡ place_line name starts stops ++ rest
place-parts name starts stops rest =
    ap (λ t. name ++ 9 ∷ t) (sym (append_assoc starts (9 ∷ stops) rest)) ∙ sym (append_assoc name (9 ∷ (starts ++ 9 ∷ stops)) rest)

append-size : (xs ys : List ℕ) (n : ℕ) → n ≡ length (xs ++ ys) - length ys → (n ≡ length xs) × (drop n (xs ++ ys) ≡ ys)
append-size xs ys n is = (grind (arith, common_steps), grind (arith, common_steps))

feedless : (name starts stops : List ℕ) → HasNoFeed name → HasNoFeed starts → HasNoFeed stops → HasNoFeed (place_line name starts stops)
feedless name starts stops p0 p1 p2 =
    All-append (λ b. b ≢ 10) name (9 ∷ (starts ++ 9 ∷ stops)) p0 (tab-feed (starts ++ 9 ∷ stops) (All-append (λ b. b ≢ 10) starts (9 ∷ stops) p1 (tab-feed stops p2)))

stripped : (name starts tail : List ℕ) → All (λ b. b ≢ 13) tail → strip_last 13 (place_line name starts tail) ≡ place_line name starts tail
stripped name starts tail none =
    let parts : place_line name starts tail ≡ (name ++ 9 ∷ starts) ++ 9 ∷ tail = sym (append_assoc name (9 ∷ starts) (9 ∷ tail)) in
    let kept : strip_last 13 (9 ∷ tail) ≡ 9 ∷ tail = strip-kept (9 ∷ tail) (All-cons (λ b. b ≢ 13) 9 tail (λ e. omega (arith, e)) none) in
    ap (strip_last 13) parts ∙ strip-front (name ++ 9 ∷ starts) 9 tail ∙ ap (λ t. (name ++ 9 ∷ starts) ++ t) kept ∙ sym parts

-- a line that ends at a LF, or at a CR and a LF
ended : (line rest next : List ℕ) → HasNoFeed line → strip_last 13 line ≡ line → (rest ≡ 10 ∷ next) ⊎ (rest ≡ 13 ∷ 10 ∷ next)
    → (head : List ℕ) × (0 < length head) × (line ++ rest ≡ head ++ next) × (lines (line ++ rest) ≡ line ∷ lines next)
ended line rest next plain kept (inl feed) =
    let whole : line ++ rest ≡ (line ++ 10 ∷ []) ++ next = ap (λ t. line ++ t) feed ∙ sym (append_assoc line (10 ∷ []) next) in
    (line ++ 10 ∷ [], grind (arith, common_steps), whole, ap lines whole ∙ lines-line line next plain ∙ ap (λ (s : List ℕ). s ∷ lines next) kept)
ended line rest next plain kept (inr feed) =
    let raw : List ℕ = line ++ 13 ∷ [] in
    let whole : line ++ rest ≡ (raw ++ 10 ∷ []) ++ next =
    ap (λ t. line ++ t) feed ∙ sym (append_assoc line (13 ∷ []) (10 ∷ next)) ∙ sym (append_assoc raw (10 ∷ []) next) in
    let feedless_raw : HasNoFeed raw = All-append (λ b. b ≢ 10) line (13 ∷ []) plain (All-cons (λ b. b ≢ 10) 13 [] (λ e. omega (arith, e)) (All-nil (λ b. b ≢ 10))) in
    let cut : strip_last 13 raw ≡ line = strip-front line 13 [] ∙ ap (λ t. line ++ t) (strip-is 13 []) ∙ append-nil line in
    (raw ++ 10 ∷ [], grind (arith, common_steps), whole, ap lines whole ∙ lines-line raw next feedless_raw ∙ ap (λ (s : List ℕ). s ∷ lines next) cut)

-- ---- the cells of a line after its interval

cell-without : (z : ℕ) (cell : List ℕ) → ends_cell z ≡ true → IsCell cell → All (λ b. b ≢ z) cell
cell-without z cell ends plain = λ k d within e. false≢true (sym (plain k d within) ∙ ap ends_cell e ∙ ends)

cell-tab : (cell : List ℕ) → IsCell cell → HasNoTab cell
cell-tab cell plain = λ k d within. (or_parts (is_line_byte (get_or cell k d)) (is_separator 9 (get_or cell k d)) (plain k d within)).1

-- a byte that ends a cell, and is no TAB, is not among cells
laid-without : (z : ℕ) (cells : List (List ℕ)) → ends_cell z ≡ true → 9 ≢ z → All IsCell cells → All (λ b. b ≢ z) (laid cells)
laid-without z [] ends other plain = All-nil (λ b. b ≢ z)
laid-without z (cell ∷ cells) ends other plain =
    All-cons (λ b. b ≢ z) 9 (cell ++ laid cells) other
    (All-append (λ b. b ≢ z) cell (laid cells) (cell-without z cell ends (All-head IsCell cell cells plain)) (laid-without z cells ends other (All-tail IsCell cell cells plain)))

laid-after : (cells : List (List ℕ)) → All IsCell cells → ArePassed (laid cells) cells
laid-after [] plain = column-last
laid-after (cell ∷ cells) plain = λ column p.
    column-more column (cell ++ laid cells) p
    ∙ ap (λ (cs : List (List ℕ)). column ∷ cs) (laid-after cells (All-tail IsCell cell cells plain) cell (cell-tab cell (All-head IsCell cell cells plain)))

-- a cell with a byte may be a name or a score
pub cell-text : (cell : List ℕ) → 0 < length cell → IsCell cell → bad_text cell ≡ false
cell-text cell some plain = or_from (length cell == 0) (list_any is_line_byte cell) (ne_eqb (length cell) 0 (λ e. omega (arith, e))) (none cell plain)
  where
    none : (bs : List ℕ) → IsCell bs → list_any is_line_byte bs ≡ false
    none [] p = refl
    none (b ∷ bs) p =
        or_from (is_line_byte b) (list_any is_line_byte bs) (or_parts (is_line_byte b) (is_separator 9 b) (All-head (λ x. ends_cell x ≡ false) b bs p)).0
        (none bs (All-tail (λ x. ends_cell x ≡ false) b bs p))

-- a byte that means a strand is a cell
pub cell-strand : (b : ℕ) → is_some (strand_of (b ∷ [])) ≡ true → IsCell (b ∷ [])
cell-strand b is =
    All-cons (λ x. ends_cell x ≡ false) b []
    (or_from (is_line_byte b) (is_separator 9 b) (or_from ((b == 13) || (b == 10)) (b == 0) (or_from (b == 13) (b == 10) (other 13 refl) (other 10 refl)) (other 0 refl)) (other 9 refl))
    (All-nil (λ x. ends_cell x ≡ false))
  where
    other : (z : ℕ) → is_some (strand_of (z ∷ [])) ≡ false → (b == z) ≡ false
    other z none = ne_eqb b z (λ e. false≢true (sym none ∙ ap (λ x. is_some (strand_of (x ∷ []))) (sym e) ∙ is))

-- ---- the cells of each width

abbrev pub IsText : List ℕ → Type 0
IsText cell = bad_text cell ≡ false

abbrev pub IsStrand : List ℕ → Type 0
IsStrand cell = IsSome (strand_of cell)

-- a cell in front of others
laid-in-front : (text cell after rest : List ℕ) (cells : List (List ℕ)) → text ≡ 9 ∷ (cell ++ after) → after ≡ laid cells ++ rest → text ≡ laid (cell ∷ cells) ++ rest
laid-in-front text cell after rest cells first others =
    first ∙ ap (λ t. 9 ∷ (cell ++ t)) others ∙ ap (λ t. 9 ∷ t) (sym (append_assoc cell (laid cells) rest))

pub three-columns : (w : ℕ) (text : List ℕ) → w ≡ 3 → BeginsWithCells w text text
three-columns w text is = record {
  cells = [];
  text_is = refl;
  plain = All-nil IsCell;
  count = sym is;
  sound = record { name_good = λ wide. absurd (omega (arith, wide, is)); score_good = λ wide. absurd (omega (arith, wide, is)); strand_good = λ wide. absurd (omega (arith, wide, is)) };
}

-- a name or a score after a TAB, and what follows it; and so a strand
abbrev pub IsAfterText : List ℕ → List ℕ → Type 0
IsAfterText text rest = (cell : List ℕ) × BeginsWithCell IsText text cell rest

abbrev pub IsAfterStrand : List ℕ → List ℕ → Type 0
IsAfterStrand text rest = (cell : List ℕ) × BeginsWithCell IsStrand text cell rest

pub four-columns : (w : ℕ) (text rest : List ℕ) → w ≡ 4 → IsAfterText text rest → BeginsWithCells w text rest
four-columns w text rest is (name, one) = record {
  cells = name ∷ [];
  text_is = laid-in-front text name rest rest [] one.0 refl;
  plain = All-cons IsCell name [] one.1 (All-nil IsCell);
  count = sym is;
  sound = record { name_good = λ wide. one.2; score_good = λ wide. absurd (omega (arith, wide, is)); strand_good = λ wide. absurd (omega (arith, wide, is)) };
}

pub five-columns : (w : ℕ) (text after rest : List ℕ) → w ≡ 5 → IsAfterText text after → IsAfterText after rest → BeginsWithCells w text rest
five-columns w text after rest is (name, one) (score, two) = record {
  cells = name ∷ score ∷ [];
  text_is = laid-in-front text name after rest (score ∷ []) one.0 (laid-in-front after score rest rest [] two.0 refl);
  plain = All-cons IsCell name (score ∷ []) one.1 (All-cons IsCell score [] two.1 (All-nil IsCell));
  count = sym is;
  sound = record { name_good = λ wide. one.2; score_good = λ wide. two.2; strand_good = λ wide. absurd (omega (arith, wide, is)) };
}

six-columns : (w : ℕ) (text after_name after_score rest : List ℕ) → w ≡ 6 → IsAfterText text after_name → IsAfterText after_name after_score → IsAfterStrand after_score rest → BeginsWithCells w text rest
six-columns w text after_name after_score rest is (name, one) (score, two) (strand, three) = record {
  cells = name ∷ score ∷ strand ∷ [];
  text_is = laid-in-front text name after_name rest (score ∷ strand ∷ []) one.0
      (laid-in-front after_name score after_score rest (strand ∷ []) two.0 (laid-in-front after_score strand rest rest [] three.0 refl));
  plain = All-cons IsCell name (score ∷ strand ∷ []) one.1 (All-cons IsCell score (strand ∷ []) two.1 (All-cons IsCell strand [] three.1 (All-nil IsCell)));
  count = sym is;
  sound = record { name_good = λ wide. one.2; score_good = λ wide. two.2; strand_good = λ wide. three.2 };
}

pub six-columns-if : (w : ℕ) (text after_name after_score : List ℕ) (o : Option (Bor (List ℕ))) → w ≡ 6 → IsAfterText text after_name → IsAfterText after_name after_score
    → IfSome o (λ rest. IsAfterStrand after_score rest.now) → IfSome o (λ rest. BeginsWithCells w text rest.now)
six-columns-if w text after_name after_score None is one two three = tt
six-columns-if w text after_name after_score (Some rest) is one two three = six-columns w text after_name after_score rest.now is one two three

-- what is between the first TAB and the end of cells
pub rest-laid : (w : ℕ) (text end : List ℕ) → w ≢ 3 → (begins : BeginsWithCells w text end) → 9 ∷ take (length text - length end - 1) (drop 1 text) ≡ laid begins.cells
rest-laid w text end wide begins = by begins.cells (omega (arith, begins.count, wide)) begins.text_is
  where
    by : (cells : List (List ℕ)) → 0 < length cells → text ≡ laid cells ++ end → 9 ∷ take (length text - length end - 1) (drop 1 text) ≡ laid cells
    by [] some is = absurd (omega (arith, some))
    by (cell ∷ cells) some is =
        let others : List ℕ = cell ++ laid cells in
        let size : length text ≡ length others + length end + 1 = ap (length {A = ℕ}) is ∙ grind (arith, common_steps) in
        ap (λ t. 9 ∷ t)
        (ap (λ (t : List ℕ). take (length text - length end - 1) (drop 1 t)) is
        ∙ grind (arith, common_steps, size))

-- the columns of a rest are its cells
rest-columns : (rest : List ℕ) (cells : List (List ℕ)) → 9 ∷ rest ≡ laid cells → All IsCell cells → columns rest ≡ cells
rest-columns rest cells is plain =
    ap (λ (cs : List (List ℕ)). drop 1 cs)
    (sym (column-more [] rest (All-nil (λ b. is_separator 9 b ≡ false))) ∙ ap columns is ∙ laid-after cells plain [] (All-nil (λ b. is_separator 9 b ≡ false)))

-- a rest that was cut from a line has the columns of a record
rest-cells : (w : ℕ) (text rest end a b c : List ℕ) → w ≤ 6 → (begins : BeginsWithRest w text rest end) → AreCells w (a ∷ b ∷ c ∷ begins.0.cells) a b c rest
rest-cells w text rest end a b c few begins =
    cells-are w a b c rest begins.0.cells begins.0.count few begins.1 (λ wide. rest-columns rest begins.0.cells (begins.2 wide) begins.0.plain)

-- they may be those of a record
rest-sound : (w : ℕ) (text rest end : List ℕ) → w ≤ 6 → BeginsWithRest w text rest end → AreSoundColumns w (joined_record 0 0 0 rest w).name (joined_record 0 0 0 rest w).score (joined_record 0 0 0 rest w).strand
rest-sound w text rest end few begins =
    let cells = rest-cells w text rest end [] [] [] few begins in
    let sound = begins.0.sound in
    record {
      name_good = λ wide. ap bad_text (sym cells.name_is) ∙ sound.name_good wide;
      score_good = λ wide. ap bad_text (sym cells.score_is) ∙ sound.score_good wide;
      strand_good = λ wide. subst (λ (s : Option Strand). IsSome s) cells.strand_is (sound.strand_good wide);
    }

-- and the rest is all that its record prints after the third column
pub rest-whole : (w : ℕ) (text rest end : List ℕ) → w ≤ 6 → BeginsWithRest w text rest end → 4 ≤ w → codes "\t" ++ rest ≡ rest_text (joined_record 0 0 0 rest w)
rest-whole w text rest end few begins = (rest-cells w text rest end [] [] [] few begins).whole (rest-sound w text rest end few begins).strand_good

-- a text of at least one byte
pub first-byte : (text : List ℕ) → 1 ≤ length text → text ≡ get_or text 0 0 ∷ take (length text - 1) (drop 1 text)
first-byte text some = grind (arith, common_steps)

-- ---- a line of a record

pub fast-line : (g : Sequences) (w : ℕ) (text next : List ℕ) (at : Interval) (size : ℕ) (left rest end : List ℕ) → w ≤ 6 → BeginsWithInterval g text at left → BeginsWithRest w left rest end
    → (end ≡ 10 ∷ next) ⊎ (end ≡ 13 ∷ 10 ∷ next) → size ≡ length text - length next
    → IsFastLine g w text (record_with at rest w) size
fast-line g w text next at size left rest end few place begins feed size_is =
    let after = begins.0 in
    let sound = rest-sound w left rest end few begins in
    let cells : List (List ℕ) = after.cells in
    let tail : List ℕ = place.stops ++ laid cells in
    let line : List ℕ = place_line place.name place.starts tail in
    let digits : all_ascii_digits place.stops ≡ true = number-digits place.stops at.stop place.stop_is in
    let feedless_tail : HasNoFeed tail = All-append (λ b. b ≢ 10) place.stops (laid cells) (digits-without 10 place.stops refl digits) (laid-without 10 cells refl (λ e. omega (arith, e)) after.plain) in
    let plain : HasNoFeed line = feedless place.name place.starts tail place.named.one_line (digits-without 10 place.starts refl (number-digits place.starts at.start place.start_is)) feedless_tail in
    let kept : strip_last 13 line ≡ line = stripped place.name place.starts tail (All-append (λ b. b ≢ 13) place.stops (laid cells) (digits-without 13 place.stops refl digits) (laid-without 13 cells refl (λ e. omega (arith, e)) after.plain)) in
    let ends = ended line end next plain kept feed in
    let text_is : text ≡ line ++ end =
    place.text_is ∙ ap (λ t. place_line place.name place.starts (place.stops ++ t)) after.text_is
    ∙ ap (place_line place.name place.starts) (sym (append_assoc place.stops (laid cells) end)) ∙ place-parts place.name place.starts tail end in
    let sized = append-size ends.0 next size (size_is ∙ ap (λ (t : List ℕ). length t - length next) (text_is ∙ ends.2)) in
    let alone : BeginsWithInterval g line at (laid cells) =
    record {
      name = place.name;
      starts = place.starts;
      stops = place.stops;
      len = place.len;
      text_is = refl;
      named = place.named;
      start_is = place.start_is;
      stop_is = place.stop_is;
      some = place.some;
      within = place.within;
    } in
    record {
      line = line;
      lines_are = ap lines text_is ∙ ends.3 ∙ ap (λ (t : List ℕ). line ∷ lines t) (sym (ap (drop size) (text_is ∙ ends.2) ∙ sized.1));
      some = omega (arith, ends.1, sized.0);
      within = omega arith;
      unread = unread-after place.name (place.starts ++ 9 ∷ tail) place.named.unread;
      reads = line-read g w line (laid cells) rest cells at alone (laid-after cells after.plain) (λ a b c. rest-cells w left rest end a b c few begins) sound;
      fits = record { width_is = refl; is_placed = record { some = place.some; within = (ranked g at.seq place.len place.named.length_is, subst (λ n. at.stop ≤ n) (sym (ap (λ (o : Option ℕ). unwrap_or o 0) place.named.length_is)) place.within) }; beside = sound };
    }
  where
    ranked : (h : Sequences) (rank len : ℕ) → length_at h rank ≡ Some len → rank < length h
    ranked h rank len is = by (slice_get h rank) refl is
      where
        by : (o : Option (List ℕ × ℕ)) → slice_get h rank ≡ o → option_map (λ s. s.1) o ≡ Some len → rank < length h
        by None at e = cc
        by (Some s) at e = slice_get_within h rank s at

-- ---- no line feed is in a rest

-- none is in a cell
plain-cell : (cell : List ℕ) → IsCell cell → HasNoFeed cell
plain-cell cell is = λ k d within e. false≢true (sym (is k d within) ∙ ap ends_cell e)

plain-laid : (cells : List (List ℕ)) → All IsCell cells → HasNoFeed (laid cells)
plain-laid [] all = All-nil (λ (b : ℕ). b ≢ 10)
plain-laid (cell ∷ cells) all =
    All-cons (λ (b : ℕ). b ≢ 10) 9 (cell ++ laid cells) (λ e. absurd (omega (arith, e)))
    (All-append (λ (b : ℕ). b ≢ 10) cell (laid cells) (plain-cell cell (All-head IsCell cell cells all)) (plain-laid cells (All-tail IsCell cell cells all)))

pub plain-begins : (w : ℕ) (text rest end : List ℕ) → BeginsWithRest w text rest end → HasNoFeed rest
plain-begins w text rest end begins = by (nat_le 4 w) refl
  where
    by : (b : Bool) → nat_le 4 w ≡ b → HasNoFeed rest
    by true wide = All-tail (λ (b : ℕ). b ≢ 10) 9 rest (subst HasNoFeed (sym (begins.2 (leb-true 4 w wide))) (plain-laid begins.0.cells begins.0.plain))
    by false low = subst HasNoFeed (sym (begins.1 (leb-false 4 w low))) (All-nil (λ (b : ℕ). b ≢ 10))
