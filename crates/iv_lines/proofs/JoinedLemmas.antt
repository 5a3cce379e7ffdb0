-- The columns of a record after the third as one text.
use Rattle.std.proofs.Common.{◌≡◌, ℕ, ◌+◌, ◌==◌, ◌<◌, ◌≤◌, Bool, true, false, nat_le, cond, List, [], ◌∷◌, ◌++◌, None, Some, codes, length, drop, refl, sym, ap, subst, ◌∙◌, arith, append_assoc, append-nil, Result}
use Rattle.std.specs.Prelude.{IsSome}
use Rattle.std.specs.Option.{is_some}
use Rattle.std.specs.List.{flat_map, join_with_byte}
use Rattle.std.proofs.lemmas.Bool.{eqb-true, false≢true}
use Rattle.std.proofs.lemmas.List.Splits.{join_with_byte-slice_split, length-slice_split}
use Rattle.iv_bytes.proofs.PutLemmas.{Puts-back, FailsIn-front}
use Rattle.iv_bytes.specs.Sinks.{SinkState, FailsIn, Puts, Takes}
use Rattle.iv_lines.specs.Fields.{columns}
use Rattle.iv_lines.specs.Inside.Fields.{is_separator}
use Rattle.iv_lines.specs.Read.{column}
use Rattle.iv_lines.specs.Genome.{Sequences, sequence_name}
use Rattle.iv_lines.specs.RecordText.{interval_text, joined_record, rest_text, strand_text}
use Rattle.iv_lines.specs.Inside.Read.{AreCells}
use Rattle.iv_lines.specs.Inside.RecordText.{interval_columns, tabbed}
use Rattle.iv_lines.specs.RecordValue.{RecordValue, strand_of}
use Rattle.iv_lines.specs.declared.record_ref.Strand.TheVariants.{Plus, Minus, Dot}

-- these columns, each with a TAB in front of it
abbrev pub with_tabs : List (List ℕ) → List ℕ
with_tabs cs = flat_map (λ column. codes "\t" ++ column) cs

tabs-joined : (c : List ℕ) (cs : List (List ℕ)) → 9 ∷ join_with_byte 9 (c ∷ cs) ≡ with_tabs (c ∷ cs)
tabs-joined c [] = sym (append-nil (9 ∷ c))
tabs-joined c (d ∷ cs) = ap (λ (t : List ℕ). 9 ∷ (c ++ t)) (tabs-joined d cs)

tabs-some : (cs : List (List ℕ)) → 0 < length cs → 9 ∷ join_with_byte 9 cs ≡ with_tabs cs
tabs-some [] some = absurd (omega arith)
tabs-some (c ∷ cs) some = tabs-joined c cs

-- a text with a TAB in front of it is its columns, each with a TAB in front of it
pub tabs-columns : (text : List ℕ) → codes "\t" ++ text ≡ with_tabs (columns text)
tabs-columns text =
    ap (λ (t : List ℕ). 9 ∷ t) (sym (join_with_byte-slice_split 9 text))
    ∙ tabs-some (columns text) (omega (arith, length-slice_split (is_separator 9) text))

-- a column that means a strand is the byte of it
strand-byte : (column : List ℕ) → IsSome (strand_of column) → strand_text (strand_of column) ≡ column
strand-byte [] is = absurd (false≢true is)
strand-byte (b ∷ c ∷ bs) is = absurd (false≢true is)
strand-byte (b ∷ []) is = by (b == 43) (b == 45) (b == 46) refl refl refl is
  where
    by : (p m d : Bool) → (b == 43) ≡ p → (b == 45) ≡ m → (b == 46) ≡ d
        → is_some (cond p (Some Plus) (cond m (Some Minus) (cond d (Some Dot) None))) ≡ true
        → strand_text (cond p (Some Plus) (cond m (Some Minus) (cond d (Some Dot) None))) ≡ b ∷ []
    by true m d plus minus dot some = ap (λ (x : ℕ). x ∷ []) (sym (eqb-true b 43 plus))
    by false true d plus minus dot some = ap (λ (x : ℕ). x ∷ []) (sym (eqb-true b 45 minus))
    by false false true plus minus dot some = ap (λ (x : ℕ). x ∷ []) (sym (eqb-true b 46 dot))
    by false false false plus minus dot some = absurd (false≢true some)

-- the columns after the third that a record of this width has of a line with these columns, as they are printed
abbrev pub printed : ℕ → List (List ℕ) → List ℕ
printed w cs = tabbed w (cond (nat_le 4 w) (column cs 3) [] ∷ cond (nat_le 5 w) (column cs 4) [] ∷ strand_text (cond (nat_le 6 w) (strand_of (column cs 5)) None) ∷ [])

all-printed : (cs : List (List ℕ)) → 4 ≤ length cs → length cs ≤ 6 → (6 ≤ length cs → IsSome (strand_of (column cs 5))) → printed (length cs) cs ≡ with_tabs (drop 3 cs)
all-printed (a ∷ b ∷ c ∷ d ∷ []) some few strand = refl
all-printed (a ∷ b ∷ c ∷ d ∷ e ∷ []) some few strand = refl
all-printed (a ∷ b ∷ c ∷ d ∷ e ∷ f ∷ []) some few strand = ap (λ (x : List ℕ). with_tabs (d ∷ e ∷ x ∷ [])) (strand-byte f (strand (omega arith)))
all-printed cs some few strand = absurd (omega arith)

-- if a line has as many columns as the width, and the sixth is a strand, then all after the third are printed
pub whole-printed : (w : ℕ) (cs : List (List ℕ)) → length cs ≡ w → w ≤ 6 → (6 ≤ w → IsSome (strand_of (column cs 5))) → 4 ≤ w → printed w cs ≡ with_tabs (drop 3 cs)
whole-printed w cs count few strand some =
    subst (λ (v : ℕ). printed v cs ≡ with_tabs (drop 3 cs)) count
    (all-printed cs (omega (arith, count)) (omega (arith, count)) (λ six. strand (omega (arith, count))))

-- the columns of a rest are as many as the width has after the third, and the third of them is a strand: it is all that its record prints
whole-rest : (w : ℕ) (rest : List ℕ) → 3 + length (columns rest) ≡ w → w ≤ 6 → 4 ≤ w → (6 ≤ w → IsSome (strand_of (column (columns rest) 2)))
    → codes "\t" ++ rest ≡ rest_text (joined_record 0 0 0 rest w)
whole-rest w rest count few some strand = tabs-columns rest ∙ sym (whole-printed w ([] ∷ [] ∷ [] ∷ columns rest) (omega (arith, count)) few strand some)

-- a line with as many columns as the width has, of which those after the third are those of a rest
pub cells-are : (w : ℕ) (a b c rest : List ℕ) (cells : List (List ℕ)) → 3 + length cells ≡ w → w ≤ 6 → (w < 4 → rest ≡ []) → (4 ≤ w → columns rest ≡ cells)
    → AreCells w (a ∷ b ∷ c ∷ cells) a b c rest
cells-are w a b c rest cells count few none are =
    subst (λ (v : ℕ). AreCells v (a ∷ b ∷ c ∷ cells) a b c rest) count (by cells (omega (arith, count)) (λ low. none (omega (arith, count, low))) (λ some. are (omega (arith, count))))
  where
    by : (cs : List (List ℕ)) → length cs ≤ 3 → (3 + length cs < 4 → rest ≡ []) → (1 ≤ length cs → columns rest ≡ cs) → AreCells (3 + length cs) (a ∷ b ∷ c ∷ cs) a b c rest
    by [] low empty is = record {
      count = refl;
      seq_is = refl;
      start_is = refl;
      stop_is = refl;
      name_is = refl;
      score_is = refl;
      strand_is = refl;
      none = empty;
      whole = λ strand wide. absurd (omega (arith, wide));
    }
    by (d ∷ []) low empty is =
        let cut : columns rest ≡ d ∷ [] = is (omega arith) in
        record {
          count = refl;
          seq_is = refl;
          start_is = refl;
          stop_is = refl;
          name_is = ap (λ (cs : List (List ℕ)). column cs 0) (sym cut);
          score_is = refl;
          strand_is = refl;
          none = empty;
          whole = λ strand wide. whole-rest 4 rest (ap (λ (cs : List (List ℕ)). 3 + length cs) cut) (omega arith) (omega arith) (λ six. absurd (omega (arith, six)));
        }
    by (d ∷ e ∷ []) low empty is =
        let cut : columns rest ≡ d ∷ e ∷ [] = is (omega arith) in
        record {
          count = refl;
          seq_is = refl;
          start_is = refl;
          stop_is = refl;
          name_is = ap (λ (cs : List (List ℕ)). column cs 0) (sym cut);
          score_is = ap (λ (cs : List (List ℕ)). column cs 1) (sym cut);
          strand_is = refl;
          none = empty;
          whole = λ strand wide. whole-rest 5 rest (ap (λ (cs : List (List ℕ)). 3 + length cs) cut) (omega arith) (omega arith) (λ six. absurd (omega (arith, six)));
        }
    by (d ∷ e ∷ f ∷ []) low empty is =
        let cut : columns rest ≡ d ∷ e ∷ f ∷ [] = is (omega arith) in
        record {
          count = refl;
          seq_is = refl;
          start_is = refl;
          stop_is = refl;
          name_is = ap (λ (cs : List (List ℕ)). column cs 0) (sym cut);
          score_is = ap (λ (cs : List (List ℕ)). column cs 1) (sym cut);
          strand_is = ap (λ (cs : List (List ℕ)). strand_of (column cs 2)) (sym cut);
          none = empty;
          whole = λ strand wide. whole-rest 6 rest (ap (λ (cs : List (List ℕ)). 3 + length cs) cut) (omega arith) (omega arith) (λ six. strand (omega arith));
        }
    by (d ∷ e ∷ f ∷ g ∷ cs) low empty is = absurd (omega (arith, low))

-- ---- how they are put

-- the first three columns of a record
pub front-is : (g : Sequences) (r : RecordValue) (seq start stop : ℕ) (name : List ℕ) → name ≡ sequence_name g seq → seq ≡ r.seq → start ≡ r.start → stop ≡ r.stop → interval_text name start stop ≡ interval_columns g r
front-is g r seq start stop name named on from to = λ i. interval_text ((named ∙ ap (sequence_name g) on) i) (from i) (to i)

-- the interval, a TAB and the others, in one piece
short-text : (front first laid joined rest tail : List ℕ) → first ≡ front → laid ≡ 9 ∷ (joined ++ tail) → codes "\t" ++ joined ≡ rest → first ++ laid ≡ (front ++ rest) ++ tail
short-text front first laid joined rest tail begins is all =
    ap (λ (l : List ℕ). l ++ laid) begins
    ∙ ap (λ (l : List ℕ). front ++ l) is
    ∙ ap (λ (l : List ℕ). front ++ (l ++ tail)) all
    ∙ sym (append_assoc front rest tail)

-- the interval and a TAB, if there are others, and the others after them
long-text : (front first laid joined rest tail : List ℕ) → first ≡ front → laid ++ joined ≡ rest → (first ++ laid) ++ (joined ++ tail) ≡ (front ++ rest) ++ tail
long-text front first laid joined rest tail begins all =
    append_assoc first laid (joined ++ tail)
    ∙ ap (λ (l : List ℕ). first ++ l) (sym (append_assoc laid joined tail) ∙ ap (λ (l : List ℕ). l ++ tail) all)
    ∙ ap (λ (l : List ℕ). l ++ (rest ++ tail)) begins
    ∙ sym (append_assoc front rest tail)

pub short-put : {T E : Type 0} (old new : SinkState) (result : Result T E) (front first laid joined rest tail : List ℕ)
    → first ≡ front → laid ≡ 9 ∷ (joined ++ tail) → codes "\t" ++ joined ≡ rest → Puts old new result (first ++ laid) → Puts old new result ((front ++ rest) ++ tail)
short-put old new result front first laid joined rest tail begins is all puts =
    subst (λ (t : List ℕ). Puts old new result t) (short-text front first laid joined rest tail begins is all) puts

pub long-put : {T E : Type 0} (old mid new : SinkState) (result : Result T E) (front first laid joined rest tail : List ℕ)
    → first ≡ front → laid ++ joined ≡ rest → Takes old mid (first ++ laid) → Puts mid new result (joined ++ tail) → Puts old new result ((front ++ rest) ++ tail)
long-put old mid new result front first laid joined rest tail begins all took puts =
    subst (λ (t : List ℕ). Puts old new result t) (long-text front first laid joined rest tail begins all)
    (Puts-back old mid new result (first ++ laid) (joined ++ tail) took puts)

pub long-fails : (old new : SinkState) (front first laid joined rest tail : List ℕ)
    → first ≡ front → laid ++ joined ≡ rest → FailsIn old new (first ++ laid) → FailsIn old new ((front ++ rest) ++ tail)
long-fails old new front first laid joined rest tail begins all fails =
    subst (λ (t : List ℕ). FailsIn old new t) (long-text front first laid joined rest tail begins all)
    (FailsIn-front old new (first ++ laid) (joined ++ tail) fails)
