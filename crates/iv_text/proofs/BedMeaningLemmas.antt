-- A BED file read line by line has the records of its lines if none has a cause, else the first fault.
use Rattle.std.proofs.Common.{◌≡◌, ◌↔◌, ℕ, ◌++◌, nat_le, Bool, true, false, not, cond, List, [], ◌∷◌, Option, None, Some, Result, Ok, Err, length, map, find, option_map, slice_get, refl, sym, ◌∙◌, ap}
use Rattle.std.specs.Option.{unwrap_or, option_or}
use Rattle.std.proofs.lemmas.Bool.{cond-true, cond-false, not_from_true, not_from_false}
use Rattle.std.proofs.lemmas.List.{map-append}
use Rattle.std.proofs.lemmas.List.Folds.{find-append}
use Rattle.std.proofs.lemmas.Option.{none-some}
use Rattle.iv_lines.specs.Fields.{columns}
use Rattle.iv_lines.specs.Lines.{lines}
use Rattle.iv_lines.specs.Genome.{Sequences}
use Rattle.iv_lines.specs.Read.{has_fault, faults, feature}
use Rattle.iv_lines.specs.Chains.{unless_fault}
use Rattle.iv_lines.specs.RecordValue.{RecordValue}
use Rattle.iv_text.specs.BedFile.{is_skipped_line, is_width, Bed, Draft, after_record, bed_of}
use Rattle.iv_places.specs.declared.places.HeldColumns.TheVariants as held
use Rattle.iv_text.specs.BedReading.{after_records, finished}
use Rattle.iv_text.specs.Inside.BedFile.{width_at, with_row}
use Rattle.iv_lines.specs.FileMeaning.{HaveNoCause, IsFirstFault}
use Rattle.iv_text.specs.BedMeaning.{record_lines, first_width, records_of, bed_from, width_after, has_row_cause, row_causes, record_cause}
use Rattle.iv_lines.specs.declared.fault.Fault.{Fault}
use Rattle.iv_lines.specs.declared.fault.LoadCause.{LoadCause}
use Rattle.iv_lines.specs.declared.fault.LoadCause.TheVariants as cause
use Rattle.iv_lines.specs.declared.fault.LoadFault.{LoadFault}
use Rattle.iv_text.proofs.BedLemmas.{row-unread}
use Rattle.iv_lines.proofs.FileMeaningLemmas.{same-ok, same-err, ok-err, AreSteps, run-value, run-fault, kept-not}
use Rattle.iv_lines.proofs.ListLemmas.{filter-pushed}

-- ---- what is known after lines

-- from the lines that have a record
abbrev draft_of : Sequences → List (List ℕ) → Draft
draft_of g said = record {
  width = option_map (λ line. length (columns line)) (slice_get said 0);
  records = map (λ line. feature g (unwrap_or (option_map (λ line. length (columns line)) (slice_get said 0)) 0) (columns line)) said;
}

abbrev draft : Sequences → List (List ℕ) → Draft
draft g before = record { width = first_width before; records = records_of g before }

-- with the record of one more line
abbrev with_line : Sequences → Draft → List ℕ → Draft
with_line g d line = record { width = Some (width_at d line); records = d.records ++ feature g (width_at d line) (columns line) ∷ [] }

draft-push : (g : Sequences) (said : List (List ℕ)) (line : List ℕ) → draft_of g (said ++ line ∷ []) ≡ with_line g (draft_of g said) line
draft-push g [] line = refl
draft-push g (l ∷ said) line =
    ap {B = Draft} (λ (records : List RecordValue). record { width = Some (length (columns l)); records = feature g (length (columns l)) (columns l) ∷ records })
    (map-append (λ (m : List ℕ). feature g (length (columns l)) (columns m)) said (line ∷ []))

draft-unread : (g : Sequences) (before : List (List ℕ)) (line : List ℕ) → is_skipped_line line ≡ true → draft g (before ++ line ∷ []) ≡ draft g before
draft-unread g before line unread = ap (draft_of g) (kept-not (λ l. not (is_skipped_line l)) before line (not_from_true (is_skipped_line line) unread))

draft-read : (g : Sequences) (before : List (List ℕ)) (line : List ℕ) → is_skipped_line line ≡ false → draft g (before ++ line ∷ []) ≡ with_line g (draft g before) line
draft-read g before line read =
    ap (draft_of g) (filter-pushed (λ l. not (is_skipped_line l)) before line (not_from_false (is_skipped_line line) read))
    ∙ draft-push g (record_lines before) line

-- ---- the first cause of a line

find-map : (p : LoadCause → Bool) (fs : List Fault) → find p (map cause.Record fs) ≡ option_map cause.Record (find (λ f. p (cause.Record f)) fs)
find-map p [] = refl
find-map p (f ∷ fs) = by (p (cause.Record f)) (find-map p fs)
  where
    by : (t : Bool) → find p (map cause.Record fs) ≡ option_map cause.Record (find (λ e. p (cause.Record e)) fs)
        → cond t (Some (cause.Record f)) (find p (map cause.Record fs)) ≡ option_map cause.Record (cond t (Some f) (find (λ e. p (cause.Record e)) fs))
    by true rest = refl
    by false rest = rest

-- the first of the three kinds of causes
abbrev cause_by : Bool → Option Fault → Bool → Option LoadCause
cause_by fits f full = cond (not fits) (Some cause.Columns) (option_or (option_map cause.Record f) (cond full (Some cause.TooMany) None))

cause-unread : (g : Sequences) (limit : ℕ) (before : List (List ℕ)) (line : List ℕ) → is_skipped_line line ≡ true → record_cause g limit before line ≡ None
cause-unread g limit before line unread = cond-true (is_skipped_line line) None (find (has_row_cause g limit before line) row_causes) unread

cause-read : (g : Sequences) (limit : ℕ) (before : List (List ℕ)) (line : List ℕ) → is_skipped_line line ≡ false
    → record_cause g limit before line ≡ cause_by (is_width (width_after before line)) (find (has_fault g (width_after before line) (columns line)) faults) (nat_le limit (length (records_of g before)))
cause-read g limit before line read =
    cond-false (is_skipped_line line) None (find (has_row_cause g limit before line) row_causes) read
    ∙ ap (λ (o : Option LoadCause). cond (not (is_width (width_after before line))) (Some cause.Columns) o)
    (find-append (has_row_cause g limit before line) (map cause.Record faults) (cause.TooMany ∷ [])
    ∙ ap (λ (o : Option LoadCause). option_or o (cond (nat_le limit (length (records_of g before))) (Some cause.TooMany) None)) (find-map (has_row_cause g limit before line) faults))

-- ---- one more line

abbrev outcome : Draft → Option LoadCause → Result Draft LoadCause
outcome more None = Ok more
outcome more (Some c) = Err c

row-by : (limit w : ℕ) (records : List RecordValue) (r : RecordValue) (fits : Bool) (f : Option Fault)
    → cond fits (with_row limit w records (unless_fault f (Ok r))) (Err cause.Columns) ≡ outcome (record { width = Some w; records = records ++ r ∷ [] }) (cause_by fits f (nat_le limit (length records)))
row-by limit w records r false f = refl
row-by limit w records r true (Some f) = refl
row-by limit w records r true None = by (nat_le limit (length records))
  where
    by : (full : Bool) → cond full (Err cause.TooMany) (Ok (record { width = Some w; records = records ++ r ∷ [] })) ≡ outcome (record { width = Some w; records = records ++ r ∷ [] }) (cond full (Some cause.TooMany) None)
    by true = refl
    by false = refl

row-outcome : (g : Sequences) (limit : ℕ) (before : List (List ℕ)) (line : List ℕ) → is_skipped_line line ≡ false
    → after_record g limit (draft g before) line ≡ outcome (with_line g (draft g before) line) (record_cause g limit before line)
unfolding after_record
row-outcome g limit before line read =
    cond-false _ _ _ read
    ∙ row-by limit (width_after before line) (records_of g before) (feature g (width_after before line) (columns line))
    (is_width (width_after before line)) (find (has_fault g (width_after before line) (columns line)) faults)
    ∙ ap (outcome (with_line g (draft g before) line)) (sym (cause-read g limit before line read))

row-goes : (g : Sequences) (limit : ℕ) (before : List (List ℕ)) (line : List ℕ) → record_cause g limit before line ≡ None
    → after_record g limit (draft g before) line ≡ Ok (draft g (before ++ line ∷ []))
row-goes g limit before line none = by (is_skipped_line line) refl
  where
    by : (t : Bool) → is_skipped_line line ≡ t → after_record g limit (draft g before) line ≡ Ok (draft g (before ++ line ∷ []))
    by true unread = row-unread g limit (draft g before) line unread ∙ ap Ok (sym (draft-unread g before line unread))
    by false read =
        row-outcome g limit before line read
        ∙ ap (outcome (with_line g (draft g before) line)) none
        ∙ ap Ok (sym (draft-read g before line read))

row-stops : (g : Sequences) (limit : ℕ) (before : List (List ℕ)) (line : List ℕ) (c : LoadCause) → record_cause g limit before line ≡ Some c
    → after_record g limit (draft g before) line ≡ Err c
row-stops g limit before line c is = by (is_skipped_line line) refl
  where
    by : (t : Bool) → is_skipped_line line ≡ t → after_record g limit (draft g before) line ≡ Err c
    by true unread = absurd (none-some c (sym (cause-unread g limit before line unread) ∙ is))
    by false read = row-outcome g limit before line read ∙ ap (outcome (with_line g (draft g before) line)) is

-- ---- all lines

bed-steps : (g : Sequences) (limit : ℕ) → AreSteps (record_cause g limit) (draft g) 1 (λ n. after_record g limit)
bed-steps g limit = record { goes = row-goes g limit; stops = row-stops g limit }

abbrev bed_at : ℕ → Draft → Bed
bed_at empty d = record { width = unwrap_or d.width empty; records = d.records }

pub bed-value : (g : Sequences) (empty limit : ℕ) (text : List ℕ) (b : Bed)
    → (bed_of g empty limit text ≡ Ok b) ↔ (HaveNoCause (record_cause g limit) (lines text) × (b ≡ bed_from g empty (lines text)))
bed-value g empty limit text b = (forth (after_records g limit 1 (draft g []) (lines text)) refl, back)
  where
    forth : (r : Result Draft LoadFault) → after_records g limit 1 (draft g []) (lines text) ≡ r → finished held.All empty r ≡ Ok b → HaveNoCause (record_cause g limit) (lines text) × (b ≡ bed_from g empty (lines text))
    forth (Ok d) was is =
        let h = (run-value (record_cause g limit) (draft g) (λ n. after_record g limit) (bed-steps g limit) (lines text) d).0 was in
        (h.0, sym (same-ok (bed_at empty d) b is) ∙ ap (bed_at empty) h.1)
    forth (Err f) was is = absurd (ok-err b f (sym is))

    back : HaveNoCause (record_cause g limit) (lines text) × (b ≡ bed_from g empty (lines text)) → bed_of g empty limit text ≡ Ok b
    back h =
        ap (finished held.All empty) ((run-value (record_cause g limit) (draft g) (λ n. after_record g limit) (bed-steps g limit) (lines text) (draft g (lines text))).1 (h.0, refl))
        ∙ ap Ok (sym h.1)

-- a fault of a file is one of its lines
unfinished : (empty : ℕ) (r : Result Draft LoadFault) (f : LoadFault) → finished held.All empty r ≡ Err f → r ≡ Err f
unfinished empty (Ok d) f is = absurd (ok-err (bed_at empty d) f is)
unfinished empty (Err e) f is = ap Err (same-err {X = Bed} e f is)

pub bed-fault : (g : Sequences) (empty limit : ℕ) (text : List ℕ) (f : LoadFault) → (bed_of g empty limit text ≡ Err f) ↔ IsFirstFault (record_cause g limit) (lines text) f
bed-fault g empty limit text f = (λ is. both.0 (unfinished empty (after_records g limit 1 (draft g []) (lines text)) f is), λ w. ap (finished held.All empty) (both.1 w))
  where
    both : (after_records g limit 1 (draft g []) (lines text) ≡ Err f) ↔ IsFirstFault (record_cause g limit) (lines text) f
    both = run-fault (record_cause g limit) (draft g) (λ n. after_record g limit) (bed-steps g limit) (lines text) f
