-- A file read line by line has a value if no line has a cause, else the first fault.
use Rattle.std.proofs.Common.{◌≡◌, ◌↔◌, ◌⊎◌, inl, inr, ℕ, ◌+◌, ◌++◌, Bool, true, false, not, List, [], ◌∷◌, Option, None, Some, Result, Ok, Err, length, map, filter, find, append-nil, refl, sym, ◌∙◌, ap, subst, arith}
use Rattle.std.proofs.lemmas.Bool.{cond-true, cond-false, not_from_true, not_from_false}
use Rattle.std.proofs.lemmas.List.{map-append}
use Rattle.std.proofs.lemmas.List.Elements.{filter-append}
use Rattle.std.proofs.lemmas.Option.{none-some}
use Rattle.iv_lines.specs.Chains.{after_all}
use Rattle.iv_lines.specs.Fields.{columns}
use Rattle.iv_lines.specs.Lines.{lines}
use Rattle.iv_lines.specs.Genome.{Sequences}
use Rattle.iv_lines.specs.Read.{column, number_in}
use Rattle.iv_lines.specs.GenomeFile.{is_skipped, has_cause, causes, sequence, after_line, genome_of}
use Rattle.iv_lines.specs.FileMeaning.{HaveNoCause, IsFirstFault, sequences_of, sequence_cause}
use Rattle.iv_lines.specs.declared.fault.LoadCause.{LoadCause}
use Rattle.iv_lines.specs.declared.fault.LoadFault.{LoadFault}
use Rattle.iv_lines.proofs.ListLemmas.{filter-pushed}
use Rattle.iv_lines.proofs.FileLemmas.{line-skipped, line-refused, line-taken}

-- ---- results

pub same-ok : {X Y : Type 0} (x y : X) → ◌≡◌ {A = Result X Y} (Ok x) (Ok y) → x ≡ y
same-ok x y is = cc

pub same-err : {X Y : Type 0} (x y : Y) → ◌≡◌ {A = Result X Y} (Err x) (Err y) → x ≡ y
same-err x y is = cc

pub ok-err : {X Y : Type 0} (x : X) (y : Y) → ◌≡◌ {A = Result X Y} (Ok x) (Err y) → ⊥
ok-err x y is = cc

-- ---- the first line that has a cause

-- the causes of the lines after this one
abbrev past : List ℕ → (List (List ℕ) → List ℕ → Option LoadCause) → List (List ℕ) → List ℕ → Option LoadCause
past line cause_of = λ front l. cause_of (line ∷ front) l

none-nil : (cause_of : List (List ℕ) → List ℕ → Option LoadCause) (front back : List (List ℕ)) (line : List ℕ) → ◌≡◌ {A = List (List ℕ)} [] (front ++ line ∷ back) → cause_of front line ≡ None
none-nil cause_of [] back line split = cc
none-nil cause_of (l ∷ front) back line split = cc

none-cons : (cause_of : List (List ℕ) → List ℕ → Option LoadCause) (line : List ℕ) (lines : List (List ℕ)) → cause_of [] line ≡ None → HaveNoCause (past line cause_of) lines
    → (front back : List (List ℕ)) (l : List ℕ) → line ∷ lines ≡ front ++ l ∷ back → cause_of front l ≡ None
none-cons cause_of line lines here rest [] back l split =
    let same : line ≡ l = cc in
    ap (cause_of []) (sym same) ∙ here
none-cons cause_of line lines here rest (x ∷ front) back l split =
    let same : line ≡ x = cc in
    let more : lines ≡ front ++ l ∷ back = cc in
    ap (λ (y : List ℕ). cause_of (y ∷ front) l) (sym same) ∙ rest front back l more

-- one of two: no line has a cause, or a first one has
pub looked : (cause_of : List (List ℕ) → List ℕ → Option LoadCause) (lines : List (List ℕ)) → HaveNoCause cause_of lines ⊎ ((f : LoadFault) × IsFirstFault cause_of lines f)
looked cause_of [] = inl (none-nil cause_of)
looked cause_of (line ∷ lines) = by (cause_of [] line) refl (looked (past line cause_of) lines)
  where
    by : (o : Option LoadCause) → cause_of [] line ≡ o → HaveNoCause (past line cause_of) lines ⊎ ((f : LoadFault) × IsFirstFault (past line cause_of) lines f)
        → HaveNoCause cause_of (line ∷ lines) ⊎ ((f : LoadFault) × IsFirstFault cause_of (line ∷ lines) f)
    by (Some c) is rest = inr (
      record { line = 1; cause = c },
      record {
        front = [];
        faulty = line;
        back = lines;
        split = refl;
        before = none-nil cause_of;
        number = omega arith;
        first = is;
      },
    )
    by None is (inl rest) = inl (none-cons cause_of line lines is rest)
    by None is (inr w) = inr (
      record { line = w.0.line + 1; cause = w.0.cause },
      record {
        front = line ∷ w.1.front;
        faulty = w.1.faulty;
        back = w.1.back;
        split = ap {B = List (List ℕ)} (λ (l : List (List ℕ)). line ∷ l) w.1.split;
        before = none-cons cause_of line w.1.front is w.1.before;
        number = omega (arith, w.1.number);
        first = w.1.first;
      },
    )

-- ---- a loop over lines

-- the loop's next step, from what one more line gives
pub all-step : {S : Type 0} (after : ℕ → S → List ℕ → Result S LoadCause) (n : ℕ) (s : S) (line : List ℕ) (lines : List (List ℕ)) (r : Result S LoadCause) → after n s line ≡ r
    → after_all after n s (line ∷ lines) ≡ elim r as (λ _. Result S LoadFault) [ Ok more ↦ after_all after (n + 1) more lines | Err c ↦ Err (record { line = n; cause = c }) ]
all-step {S} after n s line lines r is =
    ap (λ (o : Result S LoadCause). elim o as (λ _. Result S LoadFault) [ Ok more ↦ after_all after (n + 1) more lines | Err c ↦ Err (record { line = n; cause = c }) ]) is

-- if a line has no cause the loop goes on, with the value of the lines so far; if it has one it ends with that
pub record AreSteps {S : Type 0} (cause_of : List (List ℕ) → List ℕ → Option LoadCause) (says : List (List ℕ) → S) (n : ℕ) (after : ℕ → S → List ℕ → Result S LoadCause) : Type 0 where
  pub goes : (before : List (List ℕ)) (line : List ℕ) → cause_of before line ≡ None → after (n + length before) (says before) line ≡ Ok (says (before ++ line ∷ []))
  pub stops : (before : List (List ℕ)) (line : List ℕ) (c : LoadCause) → cause_of before line ≡ Some c → after (n + length before) (says before) line ≡ Err c

one-more : (n : ℕ) (line : List ℕ) (lines : List (List ℕ)) → n + 1 + length lines ≡ n + length (line ∷ lines)
one-more n line lines = omega arith

-- it goes over lines that have no cause
passes : {S : Type 0} (cause_of : List (List ℕ) → List ℕ → Option LoadCause) (says : List (List ℕ) → S) (n : ℕ) (after : ℕ → S → List ℕ → Result S LoadCause) → AreSteps cause_of says n after
    → (front rest : List (List ℕ)) → HaveNoCause cause_of front → after_all after n (says []) (front ++ rest) ≡ after_all after (n + length front) (says front) rest
passes cause_of says n after t [] rest none =
    let same : n ≡ n + 0 = omega arith in
    ap (λ (k : ℕ). after_all after k (says []) rest) same
passes cause_of says n after t (line ∷ front) rest none =
    let same : n ≡ n + 0 = omega arith in
    let later : AreSteps (past line cause_of) (λ before. says (line ∷ before)) (n + 1) after = record {
      goes = λ before l is. ap (λ (k : ℕ). after k (says (line ∷ before)) l) (one-more n line before) ∙ t.goes (line ∷ before) l is;
      stops = λ before l c is. ap (λ (k : ℕ). after k (says (line ∷ before)) l) (one-more n line before) ∙ t.stops (line ∷ before) l c is;
    } in
    let rest_none : HaveNoCause (past line cause_of) front = λ fs back l split. none (line ∷ fs) back l (ap {B = List (List ℕ)} (λ (m : List (List ℕ)). line ∷ m) split) in
    all-step after n (says []) line (front ++ rest) (Ok (says (line ∷ []))) (ap (λ (k : ℕ). after k (says []) line) same ∙ t.goes [] line (none [] front line refl))
    ∙ passes (past line cause_of) (λ before. says (line ∷ before)) (n + 1) after later front rest rest_none
    ∙ ap (λ (k : ℕ). after_all after k (says (line ∷ front)) rest) (one-more n line front)

module _ {S : Type 0} (cause_of : List (List ℕ) → List ℕ → Option LoadCause) (says : List (List ℕ) → S) (after : ℕ → S → List ℕ → Result S LoadCause) (t : AreSteps cause_of says 1 after) where
  abbrev run : List (List ℕ) → Result S LoadFault
  run all = after_all after 1 (says []) all

  run-none : (all : List (List ℕ)) → HaveNoCause cause_of all → run all ≡ Ok (says all)
  run-none all none = ap run (sym (append-nil all)) ∙ passes cause_of says 1 after t all [] none

  run-first : (all : List (List ℕ)) (f : LoadFault) → IsFirstFault cause_of all f → run all ≡ Err f
  run-first all f w =
      let number : 1 + length w.front ≡ f.line = omega (arith, w.number) in
      ap run w.split
      ∙ passes cause_of says 1 after t w.front (w.faulty ∷ w.back) w.before
      ∙ all-step after (1 + length w.front) (says w.front) w.faulty w.back (Err f.cause) (t.stops w.front w.faulty f.cause w.first)
      ∙ ap {B = Result S LoadFault} (λ (k : ℕ). Err (record { line = k; cause = f.cause })) number

  -- the value is that of the lines, if none has a cause
  pub run-value : (all : List (List ℕ)) (s : S) → (run all ≡ Ok s) ↔ (HaveNoCause cause_of all × (s ≡ says all))
  run-value all s = (by (looked cause_of all), λ h. run-none all h.0 ∙ ap Ok (sym h.1))
    where
      by : HaveNoCause cause_of all ⊎ ((f : LoadFault) × IsFirstFault cause_of all f) → run all ≡ Ok s → HaveNoCause cause_of all × (s ≡ says all)
      by (inl none) is = (none, same-ok s (says all) (sym is ∙ run-none all none))
      by (inr w) is = absurd (ok-err s w.0 (sym is ∙ run-first all w.0 w.1))

  -- else the fault is the first
  pub run-fault : (all : List (List ℕ)) (f : LoadFault) → (run all ≡ Err f) ↔ IsFirstFault cause_of all f
  run-fault all f = (by (looked cause_of all), run-first all f)
    where
      by : HaveNoCause cause_of all ⊎ ((e : LoadFault) × IsFirstFault cause_of all e) → run all ≡ Err f → IsFirstFault cause_of all f
      by (inl none) is = absurd (ok-err (says all) f (sym (run-none all none) ∙ is))
      by (inr w) is = subst (λ (e : LoadFault). IsFirstFault cause_of all e) (same-err {X = S} w.0 f (sym (run-first all w.0 w.1) ∙ is)) w.1

-- ---- one more line

pub kept-not : (p : List ℕ → Bool) (before : List (List ℕ)) (line : List ℕ) → p line ≡ false → filter p (before ++ line ∷ []) ≡ filter p before
kept-not p before line no_line =
    filter-append p before (line ∷ [])
    ∙ ap (λ (l : List (List ℕ)). filter p before ++ l) (cond-false (p line) (line ∷ []) [] no_line)
    ∙ append-nil (filter p before)

-- ---- genome files

skipped-more : (before : List (List ℕ)) (line : List ℕ) → is_skipped line ≡ true → sequences_of (before ++ line ∷ []) ≡ sequences_of before
skipped-more before line skipped =
    ap (map (λ (l : List ℕ). sequence (columns l))) (kept-not (λ l. not (is_skipped l)) before line (not_from_true (is_skipped line) skipped))

sequence-more : (before : List (List ℕ)) (line : List ℕ) → is_skipped line ≡ false → sequences_of (before ++ line ∷ []) ≡ sequences_of before ++ sequence (columns line) ∷ []
sequence-more before line read =
    ap (map (λ (l : List ℕ). sequence (columns l))) (filter-pushed (λ l. not (is_skipped l)) before line (not_from_false (is_skipped line) read))
    ∙ map-append (λ (l : List ℕ). sequence (columns l)) (filter (λ l. not (is_skipped l)) before) (line ∷ [])

cause-skipped : (before : List (List ℕ)) (line : List ℕ) → is_skipped line ≡ true → sequence_cause before line ≡ None
cause-skipped before line skipped = cond-true (is_skipped line) None (find (has_cause (sequences_of before) (columns line)) causes) skipped

cause-read : (before : List (List ℕ)) (line : List ℕ) → is_skipped line ≡ false → sequence_cause before line ≡ find (has_cause (sequences_of before) (columns line)) causes
cause-read before line read = cond-false (is_skipped line) None (find (has_cause (sequences_of before) (columns line)) causes) read

line-goes : (before : List (List ℕ)) (line : List ℕ) → sequence_cause before line ≡ None → after_line (sequences_of before) line ≡ Ok (sequences_of (before ++ line ∷ []))
line-goes before line none = by (is_skipped line) refl
  where
    by : (t : Bool) → is_skipped line ≡ t → after_line (sequences_of before) line ≡ Ok (sequences_of (before ++ line ∷ []))
    by true skipped = line-skipped (sequences_of before) line skipped ∙ ap Ok (sym (skipped-more before line skipped))
    by false read =
        line-taken (sequences_of before) line (column (columns line) 0) (number_in (column (columns line) 1)) read (sym (cause-read before line read) ∙ none) refl
        ∙ ap Ok (sym (sequence-more before line read))

line-stops : (before : List (List ℕ)) (line : List ℕ) (c : LoadCause) → sequence_cause before line ≡ Some c → after_line (sequences_of before) line ≡ Err c
line-stops before line c is = by (is_skipped line) refl
  where
    by : (t : Bool) → is_skipped line ≡ t → after_line (sequences_of before) line ≡ Err c
    by true skipped = absurd (none-some c (sym (cause-skipped before line skipped) ∙ is))
    by false read = line-refused (sequences_of before) line c read (sym (cause-read before line read) ∙ is)

genome-steps : AreSteps sequence_cause sequences_of 1 (λ n. after_line)
genome-steps = record { goes = line-goes; stops = line-stops }

pub genome-value : (text : List ℕ) (g : Sequences) → (genome_of text ≡ Ok g) ↔ (HaveNoCause sequence_cause (lines text) × (g ≡ sequences_of (lines text)))
genome-value text g = run-value sequence_cause sequences_of (λ n. after_line) genome-steps (lines text) g

pub genome-fault : (text : List ℕ) (f : LoadFault) → (genome_of text ≡ Err f) ↔ IsFirstFault sequence_cause (lines text) f
genome-fault text f = run-fault sequence_cause sequences_of (λ n. after_line) genome-steps (lines text) f
