-- The reading of a BED file in pieces.
use Rattle.std.proofs.Common.{◌≡◌, ℕ, ◌+◌, ◌<◌, ◌≤◌, Bool, true, false, cond, nat_le, List, [], ◌∷◌, ◌++◌, Option, Some, None, Result, Ok, Err, length, map, take, drop, refl, sym, ap, subst, ◌∙◌, arith, append_assoc, append-nil, take-append-drop, unwrap_or, get_or}
use Rattle.std.specs.Prelude.{All, MatchOption}
use Rattle.std.proofs.lemmas.Bool.{cond-true, le-leb}
use Rattle.std.proofs.lemmas.Bool.Decides.{nat_tests}
use Rattle.std.proofs.lemmas.List.{length-map, map-append, map-id}
use Rattle.std.proofs.lemmas.List.Elements.{All-nil, All-cons, All-append, All-head, All-tail}
use Rattle.iv_text.specs.BedFile.{Bed, Draft, is_skipped_line, is_width, after_record, bed_of}
use Rattle.iv_text.specs.Inside.BedFile.{width_at, with_row}
use Rattle.iv_lines.specs.Fields.{columns}
use Rattle.iv_lines.specs.Genome.{Sequences}
use Rattle.iv_lines.specs.Chains.{if_ok}
use Rattle.iv_lines.specs.Lines.{lines}
use Rattle.iv_lines.specs.Read.{read, AreSoundColumns, Fits}
use Rattle.iv_lines.specs.RecordValue.{RecordValue}
use Rattle.iv_lines.specs.declared.fault.Fault.{Fault}
use Rattle.iv_lines.specs.declared.fault.LoadCause.{LoadCause}
use Rattle.iv_lines.specs.declared.fault.LoadCause.TheVariants as cause
use Rattle.iv_lines.specs.declared.fault.LoadFault.{LoadFault}
use Rattle.iv_places.specs.HeldColumns.{held_as, held_bed, held_width}
use Rattle.iv_places.specs.declared.places.HeldColumns.{HeldColumns}
use Rattle.iv_places.specs.declared.places.HeldColumns.TheVariants as held
use Rattle.iv_text.specs.Inside.FastLine.{IsFastLine}
use Rattle.iv_text.specs.BedReading.{LinesRead, known, held_draft, after, IsHeld, AreSoundLines, Reading, begun, read_on, held_or_fault, held_bed_of, after_records, finished}
use Rattle.iv_text.specs.Inside.BedReading.{Takes, Refuses, TakesLine, RefusesLine}
use Rattle.iv_lines.specs.Inside.Pieces.{EndsAtFeed, IsEnded}
use Rattle.iv_text.proofs.BedLemmas.{row-unread, row-columns, row-taken}
use Rattle.iv_lines.proofs.PieceLemmas.{lines-fed, lines-ended, fed-after}

-- ---- one more line

abbrev pub turned : Sequences → ℕ → ℕ → List (List ℕ) → Result Draft LoadCause → Result Draft LoadFault
turned g limit n rest (Ok more) = after_records g limit (n + 1) more rest
turned g limit n rest (Err c) = Err (record { line = n; cause = c })

pub full-row : (limit w : ℕ) (records : List RecordValue) (r : RecordValue) → limit ≤ length records → with_row limit w records (Ok r) ≡ Err cause.TooMany
full-row limit w records r full = cond-true _ _ _ (le-leb limit (length records) full)

pub free-row : (limit w : ℕ) (records : List RecordValue) (r : RecordValue) → length records < limit → with_row limit w records (Ok r) ≡ Ok (record { width = Some w; records = records ++ r ∷ [] })
free-row limit w records r free = by (nat_le limit (length records)) refl
  where
    by : (t : Bool) → nat_le limit (length records) ≡ t → cond {A = Result Draft LoadCause} t (Err cause.TooMany) (Ok (record { width = Some w; records = records ++ r ∷ [] })) ≡ Ok (record { width = Some w; records = records ++ r ∷ [] })
    by true e = absurd (grind (arith, nat_tests, e))
    by false e = refl

-- ---- what is held of records

-- what is held of a record is all that is held of that
held-again : (which : HeldColumns) (r : RecordValue) → held_as which (held_as which r) ≡ held_as which r
held-again held.All r = refl
held-again held.Interval r = refl

-- what is held of a record has as many columns as the width of the record says
held-wide : (which : HeldColumns) (w : ℕ) (r : RecordValue) → r.width ≡ w → (held_as which r).width ≡ held_width which w
held-wide held.All w r is = is
held-wide held.Interval w r is = refl

pub held-known : (which : HeldColumns) (w : ℕ) → 3 ≤ w → w ≤ 6 → (3 ≤ held_width which w) × (held_width which w ≤ 6)
held-known held.All w low high = (low, high)
held-known held.Interval w low high = (omega arith, omega arith)

held-alike : (which : HeldColumns) (q r : RecordValue) → q.width ≡ r.width → (held_as which q).width ≡ (held_as which r).width
held-alike which q r same = held-wide which r.width q same ∙ sym (held-wide which r.width r refl)

-- it fits the genome as the record does
held-fits : (which : HeldColumns) (g : Sequences) (w : ℕ) (r : RecordValue) → Fits g w r → Fits g (held_width which w) (held_as which r)
held-fits held.All g w r fits = fits
held-fits held.Interval g w r fits = record {
  width_is = refl;
  is_placed = record { some = fits.is_placed.some; within = fits.is_placed.within };
  beside = record { name_good = λ four. absurd (omega (arith, four)); score_good = λ five. absurd (omega (arith, five)); strand_good = λ six. absurd (omega (arith, six)) };
}

pub all-fit : (which : HeldColumns) (g : Sequences) (w : ℕ) (records : List RecordValue) → All (IsHeld which g w) records → All (Fits g (held_width which w)) records
all-fit which g w records all = λ k e within.
    let one : IsHeld which g w (get_or records k e) = all k e within in
    subst (Fits g (held_width which w)) (sym one.2) (held-fits which g w one.0 one.1)

module _ (which : HeldColumns) where
  -- both are known, and the same is held of them; or both are the same fault
  abbrev AreAlike : Result Draft LoadCause → Result Draft LoadCause → Type 0
  AreAlike (Ok d) (Ok e) = (d.width ≡ e.width) × (map (held_as which) d.records ≡ map (held_as which) e.records)
  AreAlike (Ok d) (Err c) = ⊥
  AreAlike (Err c) (Ok d) = ⊥
  AreAlike (Err c) (Err f) = c ≡ f

  kept-more : (xs ys : List RecordValue) (r : RecordValue) → map (held_as which) xs ≡ map (held_as which) ys → map (held_as which) (xs ++ r ∷ []) ≡ map (held_as which) (ys ++ r ∷ [])
  kept-more xs ys r same = map-append (held_as which) xs (r ∷ []) ∙ ap (λ (l : List RecordValue). l ++ held_as which r ∷ []) same ∙ sym (map-append (held_as which) ys (r ∷ []))

module _ (which : HeldColumns) (g : Sequences) (limit : ℕ) where
  alike-with_row : (w : ℕ) (xs ys : List RecordValue) (r : Result RecordValue Fault) → map (held_as which) xs ≡ map (held_as which) ys → AreAlike which (with_row limit w xs r) (with_row limit w ys r)
  alike-with_row w xs ys (Err f) same = refl
  alike-with_row w xs ys (Ok r) same = by (nat_le limit (length xs)) (nat_le limit (length ys)) (ap (nat_le limit) long)
    where
      long : length xs ≡ length ys
      long = omega (arith, length-map xs (held_as which), length-map ys (held_as which), ap (λ (l : List RecordValue). length l) same)

      by : (s t : Bool) → s ≡ t → AreAlike which (cond s (Err cause.TooMany) (Ok (record { width = Some w; records = xs ++ r ∷ [] }))) (cond t (Err cause.TooMany) (Ok (record { width = Some w; records = ys ++ r ∷ [] })))
      by true true e = refl
      by false false e = (refl, kept-more which xs ys r same)
      by true false e = cc
      by false true e = cc

  alike-cases : (w : Option ℕ) (xs ys : List RecordValue) (t u : Bool) (a b : Result Draft LoadCause) → map (held_as which) xs ≡ map (held_as which) ys → AreAlike which a b
      → AreAlike which (cond t (Ok (record { width = w; records = xs })) (cond u a (Err cause.Columns))) (cond t (Ok (record { width = w; records = ys })) (cond u b (Err cause.Columns)))
  alike-cases w xs ys true u a b same h = (refl, same)
  alike-cases w xs ys false true a b same h = h
  alike-cases w xs ys false false a b same h = refl

  alike-row : (w : Option ℕ) (xs ys : List RecordValue) (line : List ℕ) → map (held_as which) xs ≡ map (held_as which) ys
      → AreAlike which (after_record g limit (record { width = w; records = xs }) line) (after_record g limit (record { width = w; records = ys }) line)
  unfolding after_record
  alike-row w xs ys line same =
      let n : ℕ = unwrap_or w (length (columns line)) in
      alike-cases w xs ys (is_skipped_line line) (is_width n) (with_row limit n xs (read g n line)) (with_row limit n ys (read g n line)) same
      (alike-with_row n xs ys (read g n line) same)

  alike-turned : (n : ℕ) (ls : List (List ℕ))
      → ((w : Option ℕ) (xs ys : List RecordValue) → map (held_as which) xs ≡ map (held_as which) ys
      → held_draft which (after_records g limit (n + 1) (record { width = w; records = xs }) ls) ≡ held_draft which (after_records g limit (n + 1) (record { width = w; records = ys }) ls))
      → (r s : Result Draft LoadCause) → AreAlike which r s → held_draft which (turned g limit n ls r) ≡ held_draft which (turned g limit n ls s)
  alike-turned n ls rest (Ok d) (Ok e) h =
      rest d.width d.records e.records h.1 ∙ ap (λ (o : Option ℕ). held_draft which (after_records g limit (n + 1) (record { width = o; records = e.records }) ls)) h.0
  alike-turned n ls rest (Ok d) (Err c) h = absurd h
  alike-turned n ls rest (Err c) (Ok d) h = absurd h
  alike-turned n ls rest (Err c) (Err f) h = ap (λ (k : LoadCause). Err (record { line = n; cause = k })) h

  -- of the records that are known before lines only what is held of them counts
  alike-rows : (ls : List (List ℕ)) (n : ℕ) (w : Option ℕ) (xs ys : List RecordValue) → map (held_as which) xs ≡ map (held_as which) ys
      → held_draft which (after_records g limit n (record { width = w; records = xs }) ls) ≡ held_draft which (after_records g limit n (record { width = w; records = ys }) ls)
  alike-rows [] n w xs ys same = ap (λ (l : List RecordValue). Ok (record { width = w; records = l })) same
  alike-rows (line ∷ ls) n w xs ys same =
      alike-turned n ls (λ v us vs e. alike-rows ls (n + 1) v us vs e) (after_record g limit (record { width = w; records = xs }) line) (after_record g limit (record { width = w; records = ys }) line)
      (alike-row w xs ys line same)

  -- ---- one more line

  pub line-taken : (old new : LinesRead) (all left : List (List ℕ)) (line : List ℕ) (next : Draft) → all ≡ line ∷ left → after_record g limit (known old) line ≡ Ok next
      → next.width ≡ new.width → map (held_as which) next.records ≡ map (held_as which) new.records → Takes which g limit old new all left
  line-taken old new all left line next is says wide records = λ n rest.
      ap (λ (ls : List (List ℕ)). held_draft which (after_records g limit n (known old) (ls ++ rest))) is
      ∙ ap (λ (r : Result Draft LoadCause). held_draft which (turned g limit n (left ++ rest) r)) says
      ∙ alike-rows (left ++ rest) (n + 1) next.width next.records new.records records
      ∙ ap (λ (o : Option ℕ). held_draft which (after_records g limit (n + 1) (record { width = o; records = new.records }) (left ++ rest))) wide

  pub line-refused : (old : LinesRead) (all left : List (List ℕ)) (line : List ℕ) (c : LoadCause) → all ≡ line ∷ left → after_record g limit (known old) line ≡ Err c
      → Refuses which g limit old all c
  line-refused old all left line c is says = λ n rest.
      ap (λ (ls : List (List ℕ)). held_draft which (after_records g limit n (known old) (ls ++ rest))) is
      ∙ ap (λ (r : Result Draft LoadCause). held_draft which (turned g limit n (left ++ rest) r)) says

  pub unread-taken : (old : LinesRead) (all left : List (List ℕ)) (line : List ℕ) → all ≡ line ∷ left → is_skipped_line line ≡ true → Takes which g limit old old all left
  unread-taken old all left line is unread = line-taken old old all left line (known old) is (row-unread g limit (known old) line unread) refl refl

  pub columns-refused : (old : LinesRead) (all left : List (List ℕ)) (line : List ℕ) → all ≡ line ∷ left → is_skipped_line line ≡ false
      → is_width (width_at (known old) line) ≡ false → Refuses which g limit old all cause.Columns
  columns-refused old all left line is unread wrong = line-refused old all left line cause.Columns is (row-columns g limit (known old) line unread wrong)

  pub record-refused : (old : LinesRead) (all left : List (List ℕ)) (line : List ℕ) (w : ℕ) (f : Fault) → all ≡ line ∷ left → is_skipped_line line ≡ false
      → w ≡ unwrap_or old.width (length (columns line)) → 3 ≤ w → w ≤ 6 → read g w line ≡ Err f → Refuses which g limit old all (cause.Record f)
  record-refused old all left line w f is unread wide low high says =
      line-refused old all left line (cause.Record f) is
      (row-taken g limit (known old) line w (Err (cause.Record f)) unread wide low high (ap (with_row limit w old.records) says))

  pub full-refused : (old : LinesRead) (all left : List (List ℕ)) (line : List ℕ) (w : ℕ) (r : RecordValue) → all ≡ line ∷ left → is_skipped_line line ≡ false
      → w ≡ unwrap_or old.width (length (columns line)) → 3 ≤ w → w ≤ 6 → read g w line ≡ Ok r → limit ≤ length old.records → Refuses which g limit old all cause.TooMany
  full-refused old all left line w r is unread wide low high says full =
      line-refused old all left line cause.TooMany is
      (row-taken g limit (known old) line w (Err cause.TooMany) unread wide low high (ap (with_row limit w old.records) says ∙ full-row limit w old.records r full))

  -- what is held of the records before, at the width that is found
  rows-before : (old : LinesRead) (w other : ℕ) → AreSoundLines which g limit old → w ≡ unwrap_or old.width other → All (IsHeld which g w) old.records
  rows-before old w other sound is = by old.width sound.fit is
    where
      by : (o : Option ℕ) → MatchOption o (old.records ≡ []) (λ k. (3 ≤ k) × (k ≤ 6) × All (IsHeld which g k) old.records) → w ≡ unwrap_or o other → All (IsHeld which g w) old.records
      by None none same = subst (λ (l : List RecordValue). All (IsHeld which g w) l) (sym none) (All-nil (IsHeld which g w))
      by (Some k) some same = subst (λ (n : ℕ). All (IsHeld which g n) old.records) (sym same) some.2

  -- a record was taken: what was read is sound
  pub record-sound : (old new : LinesRead) (line : List ℕ) (w : ℕ) (r k : RecordValue) → AreSoundLines which g limit old → w ≡ unwrap_or old.width (length (columns line)) → 3 ≤ w → w ≤ 6
      → Fits g w r → k ≡ held_as which r → length old.records < limit → new.records ≡ old.records ++ k ∷ [] → new.width ≡ Some w → AreSoundLines which g limit new
  record-sound old new line w r k sound wide low high fits kept_is free grown width =
      let one : All (IsHeld which g w) (k ∷ []) = All-cons (IsHeld which g w) k [] (r, fits, kept_is) (All-nil (IsHeld which g w)) in
      let before : All (IsHeld which g w) old.records = rows-before old w (length (columns line)) sound wide in
      let fit : All (IsHeld which g w) new.records = subst (λ (l : List RecordValue). All (IsHeld which g w) l) (sym grown) (All-append (IsHeld which g w) old.records (k ∷ []) before one) in
      record {
        fit = subst (λ (o : Option ℕ). MatchOption o (new.records ≡ []) (λ n. (3 ≤ n) × (n ≤ 6) × All (IsHeld which g n) new.records)) (sym width) (low, high, fit);
        few = omega (arith, free, ap (λ (l : List RecordValue). length l) grown, long old.records k);
      }
    where
      long : (xs : List RecordValue) (x : RecordValue) → length (xs ++ x ∷ []) ≡ length xs + 1
      long [] x = refl
      long (y ∷ xs) x = omega (arith, long xs x)

  -- and its line is the first of those that were left
  pub record-taken : (old new : LinesRead) (all left : List (List ℕ)) (line : List ℕ) (w : ℕ) (r k : RecordValue)
      → all ≡ line ∷ left → is_skipped_line line ≡ false → w ≡ unwrap_or old.width (length (columns line)) → 3 ≤ w → w ≤ 6
      → read g w line ≡ Ok r → k ≡ held_as which r → length old.records < limit → new.records ≡ old.records ++ k ∷ [] → new.width ≡ Some w → Takes which g limit old new all left
  record-taken old new all left line w r k is unread wide low high says kept_is free grown width =
      let next : Draft = record { width = Some w; records = old.records ++ r ∷ [] } in
      let gives : with_row limit w old.records (read g w line) ≡ Ok next = ap (with_row limit w old.records) says ∙ free-row limit w old.records r free in
      let same : held_as which r ≡ held_as which k = sym (ap (held_as which) kept_is ∙ held-again which r) in
      let records : map (held_as which) (old.records ++ r ∷ []) ≡ map (held_as which) new.records =
      map-append (held_as which) old.records (r ∷ []) ∙ ap (λ (b : RecordValue). map (held_as which) old.records ++ b ∷ []) same ∙ sym (map-append (held_as which) old.records (k ∷ [])) ∙ ap (map (held_as which)) (sym grown) in
      line-taken old new all left line next is (row-taken g limit (known old) line w (Ok next) unread wide low high gives) (sym width) records

  -- a width that is known is one of 3 to 6
  pub known-wide : (old : LinesRead) (w : ℕ) → AreSoundLines which g limit old → old.width ≡ Some w → (3 ≤ w) × (w ≤ 6)
  known-wide old w sound is =
      let fit : (3 ≤ w) × (w ≤ 6) × All (IsHeld which g w) old.records = subst (λ (o : Option ℕ). MatchOption o (old.records ≡ []) (λ n. (3 ≤ n) × (n ≤ 6) × All (IsHeld which g n) old.records)) is sound.fit in
      (fit.0, fit.1)

  -- ---- pieces

  -- a line that is carried on, and ends with the first of more lines
  pub carried-lines : (old now : Reading) (all line : List ℕ) (size : ℕ) → now ≡ old → now.tail ++ take size all ≡ line → EndsAtFeed (take size all)
      → (more : List ℕ) → read_on which g limit old (all ++ more) ≡ after which g limit now.read (lines line ++ lines (drop size all ++ more))
  carried-lines old now all line size same is ends more =
      let front : List ℕ = take size all in
      let back : List ℕ = drop size all ++ more in
      ap (λ (r : Reading). read_on which g limit r (all ++ more)) (sym same)
      ∙ ap (λ (t : List ℕ). read_on which g limit now (t ++ more)) (sym (take-append-drop size all))
      ∙ ap (read_on which g limit now) (append_assoc front (drop size all) more)
      ∙ ap (after which g limit now.read) (ap lines (sym (append_assoc now.tail front back)) ∙ lines-fed (now.tail ++ front) back (fed-after now.tail front ends))
      ∙ ap (λ (t : List ℕ). after which g limit now.read (lines t ++ lines back)) is

  -- the lines of a piece, once no line is carried on
  pub piece-lines : (old on now : Reading) (piece all line back : List ℕ) (taken : ℕ) → piece ≡ all ++ back
      → ((m : List ℕ) → read_on which g limit old (all ++ m) ≡ read_on which g limit on (drop taken all ++ m)) → on.tail ≡ [] → IsEnded (drop taken all) → now ≡ on → line ≡ drop taken all
      → (more : List ℕ) → read_on which g limit old (piece ++ more) ≡ after which g limit now.read (lines line ++ lines (back ++ more))
  piece-lines old on now piece all line back taken is carried none ended same line_is more =
      let left : List ℕ = drop taken all in
      ap (λ (t : List ℕ). read_on which g limit old (t ++ more)) is
      ∙ ap (read_on which g limit old) (append_assoc all back more)
      ∙ carried (back ++ more)
      ∙ ap (λ (t : List ℕ). after which g limit on.read (lines (t ++ (left ++ (back ++ more))))) none
      ∙ ap (after which g limit on.read) (lines-ended left (back ++ more) ended)
      ∙ ap (λ (r : Reading). after which g limit r.read (lines left ++ lines (back ++ more))) (sym same)
      ∙ ap (λ (t : List ℕ). after which g limit now.read (lines t ++ lines (back ++ more))) (sym line_is)

  -- ---- the whole file

  pub begun-sound : AreSoundLines which g limit begun.read
  begun-sound = record { fit = refl; few = omega arith }

  -- what is known of a file before its first byte, if its text remains, is what is known of the text
  pub whole-file : (empty : ℕ) (text : List ℕ) → finished which empty (read_on which g limit begun text) ≡ held_bed_of which g empty limit text
  whole-file empty text = by (after_records g limit 1 (record { width = None; records = [] }) (lines text))
    where
      by : (r : Result Draft LoadFault) → finished which empty (held_draft which r) ≡ held_or_fault which (if_ok r (λ d. Ok (record { width = unwrap_or d.width empty; records = d.records })))
      by (Ok d) = refl
      by (Err f) = refl

  -- what is which stays so
  pub held-same : (w : ℕ) (records : List RecordValue) → All (IsHeld which g w) records → map (held_as which) records ≡ records
  held-same w [] all = refl
  held-same w (k ∷ records) all =
      let first : IsHeld which g w k = All-head (IsHeld which g w) k records all in
      (λ i. (ap (held_as which) first.2 ∙ held-again which first.0 ∙ sym first.2) i ∷ held-same w records (All-tail (IsHeld which g w) k records all) i)

  -- the width of a file that was read, and what is held of its records
  pub sound-kept : (l : LinesRead) (empty : ℕ) → AreSoundLines which g limit l → 3 ≤ empty → empty ≤ 6
      → (3 ≤ unwrap_or l.width empty) × (unwrap_or l.width empty ≤ 6) × All (IsHeld which g (unwrap_or l.width empty)) l.records
  sound-kept l empty sound low high = by l.width sound.fit
    where
      by : (o : Option ℕ) → MatchOption o (l.records ≡ []) (λ k. (3 ≤ k) × (k ≤ 6) × All (IsHeld which g k) l.records)
          → (3 ≤ unwrap_or o empty) × (unwrap_or o empty ≤ 6) × All (IsHeld which g (unwrap_or o empty)) l.records
      by None none = (low, high, subst (λ (records : List RecordValue). All (IsHeld which g empty) records) (sym none) (All-nil (IsHeld which g empty)))
      by (Some k) some = some

-- ---- lines, one after another

known-at : (width : Option ℕ) (w : ℕ) (line : List ℕ) → width ≡ Some w → w ≡ unwrap_or width (length (columns line))
known-at width w line is = sym (ap (λ (o : Option ℕ). unwrap_or o (length (columns line))) is)

-- none of the columns beside the interval is refused at the record's own width
pub columns-of : (g : Sequences) (w : ℕ) (r : RecordValue) → Fits g w r → AreSoundColumns r.width r.name r.score r.strand
columns-of g w r fits = subst (λ (n : ℕ). AreSoundColumns n r.name r.score r.strand) (sym fits.width_is) fits.beside

module _ (which : HeldColumns) (g : Sequences) (limit : ℕ) where
  -- what is held before has as many columns as what is held of a record of that width
  pub one-width : (old : LinesRead) (line : List ℕ) (w : ℕ) (r : RecordValue) → AreSoundLines which g limit old
      → w ≡ unwrap_or old.width (length (columns line)) → Fits g w r → All (λ k. k.width ≡ (held_as which r).width) old.records
  one-width old line w r sound wide fits = λ k d within.
      let one = rows-before which g limit old w (length (columns line)) sound wide k d within in
      ap (λ (q : RecordValue). q.width) one.2 ∙ held-alike which one.0 r (one.1.width_is ∙ sym fits.width_is)

  -- a record was taken
  module _ (old new : LinesRead) (text line : List ℕ) (size w : ℕ) (r : RecordValue) (wide : w ≡ unwrap_or old.width (length (columns line))) (low : 3 ≤ w) (high : w ≤ 6)
      (fits : Fits g w r) (free : length old.records < limit) (new_is : new ≡ record old { width = Some r.width; records = old.records ++ held_as which r ∷ [] }) where
    width : new.width ≡ Some w
    width = ap (λ (l : LinesRead). l.width) new_is ∙ ap Some fits.width_is

    records : new.records ≡ old.records ++ held_as which r ∷ []
    records = ap (λ (l : LinesRead). l.records) new_is

    pub one-sound : AreSoundLines which g limit old → AreSoundLines which g limit new
    one-sound sound = record-sound which g limit old new line w r (held_as which r) sound wide low high fits refl free records width

    pub one-taken : lines text ≡ line ∷ lines (drop size text) → is_skipped_line line ≡ false → read g w line ≡ Ok r
        → TakesLine which g limit old new text size
    one-taken are unread says = record-taken which g limit old new (lines text) (lines (drop size text)) line w r (held_as which r) are unread wide low high says refl free records width

  -- the record of a line that is read in one pass was taken, and the width is as it was
  module _ (old : LinesRead) (w : ℕ) (text : List ℕ) (r : RecordValue) (size : ℕ) (fast : IsFastLine g w text r size) (wide : (3 ≤ w) × (w ≤ 6)) (is : old.width ≡ Some w) where
    pub fast-width : AreSoundLines which g limit old → All (λ k. k.width ≡ (held_as which r).width) old.records
    fast-width sound = one-width old fast.line w r sound (known-at old.width w fast.line is) fast.fits

    pub fast-columns : AreSoundColumns r.width r.name r.score r.strand
    fast-columns = columns-of g w r fast.fits

    pub fast-sound : (new : LinesRead) → length old.records < limit → new ≡ record old { width = Some r.width; records = old.records ++ held_as which r ∷ [] } → AreSoundLines which g limit old
        → AreSoundLines which g limit new
    fast-sound new free new_is = one-sound old new text fast.line size w r (known-at old.width w fast.line is) wide.0 wide.1 fast.fits free new_is

    pub fast-taken : (new : LinesRead) → length old.records < limit
        → new ≡ record old { width = Some r.width; records = old.records ++ held_as which r ∷ [] } → (0 < size) × (size ≤ length text) × TakesLine which g limit old new text size
    fast-taken new free new_is = (
      fast.some,
      fast.within,
      one-taken old new text fast.line size w r (known-at old.width w fast.line is) wide.0 wide.1 fast.fits free new_is fast.lines_are fast.unread fast.reads,
    )

    -- it is one too many
    pub fast-full : limit ≤ length old.records → RefusesLine which g limit old text cause.TooMany
    fast-full full =
        full-refused which g limit old (lines text) (lines (drop size text)) fast.line w r fast.lines_are fast.unread (known-at old.width w fast.line is) wide.0 wide.1 fast.reads full

  -- lines of a text were read, and that is left of it
  abbrev pub TakesUpTo : LinesRead → LinesRead → List ℕ → List ℕ → Type 0
  TakesUpTo old now text left = (rest : List (List ℕ)) → after which g limit old (lines text ++ rest) ≡ after which g limit now (lines left ++ rest)

  pub takes-more : (old now read next : LinesRead) (text left rest : List ℕ) (size : ℕ) → TakesUpTo old now text left → TakesLine which g limit now read left size
      → read.number ≡ now.number → next ≡ record read { number = read.number + 1 } → rest ≡ drop size left → TakesUpTo old next text rest
  takes-more old now read next text left rest size before takes number next_is rest_is = λ others.
      before others
      ∙ takes now.number others
      ∙ ap (λ (n : ℕ). held_draft which (after_records g limit (n + 1) (known read) (lines (drop size left) ++ others))) (sym number)
      ∙ ap (λ (l : LinesRead). after which g limit l (lines (drop size left) ++ others)) (sym next_is)
      ∙ ap (λ (t : List ℕ). after which g limit next (lines t ++ others)) (sym rest_is)

-- if all columns are held, a file is as it was
pub all-held : (file : Bed) → held_bed held.All file ≡ file
all-held file = ap (λ (records : List RecordValue). record { width = file.width; records = records }) (map-id file.records)

all-kept : (file : Result Bed LoadFault) → held_or_fault held.All file ≡ file
all-kept (Ok file) = ap Ok (all-held file)
all-kept (Err f) = refl

-- and so is the file of a text that was read from its first byte on
pub text-whole : (g : Sequences) (limit empty : ℕ) (text : List ℕ) (r : Reading) → r ≡ begun → bed_of g empty limit text ≡ finished held.All empty (read_on held.All g limit r (text ++ []))
text-whole g limit empty text r is =
    sym (all-kept (bed_of g empty limit text))
    ∙ sym (whole-file held.All g limit empty text)
    ∙ ap (λ (t : List ℕ). finished held.All empty (read_on held.All g limit begun t)) (sym (append-nil text))
    ∙ ap (λ (r : Reading). finished held.All empty (read_on held.All g limit r (text ++ []))) (sym is)
