-- A session with another length of one sequence.
use Rattle.std.proofs.Common.{◌≡◌, ℕ, ◌<◌, ◌≤◌, ◌==◌, ◌&&◌, ◌||◌, nat_lt, inl, inr, Bool, true, false, if◌then◌else◌, List, [], ◌∷◌, Option, None, Some, Result, Ok, Err, length, arith, refl, sym, ap, ap₂, subst, ◌∙◌}
use Rattle.std.specs.Iterator.{YieldsFirst}
use Rattle.std.specs.List.{list_any}
use Rattle.std.specs.Option.{is_some, ok_or, option_map, option_map_or, unwrap_or}
use Rattle.std.specs.Prelude.{All, IfSome, filter, not}
use Rattle.std.proofs.lemmas.Bool.{and_parts, and_cases, or_parts, or_from, or_left, not-false, cases_Bool, cases_eq, cond-true, cond-false, ne_eqb, ltb-true, ltb-false, lt-ltb, eqb-true, eqb-false, false_from_ne_true}
use Rattle.std.proofs.lemmas.Map.Views.{exact_unsigned_eq}
use Rattle.iv_lines.specs.Chains.{if_ok}
use Rattle.iv_lines.specs.Genome.{Sequences, length_at, with_length}
use Rattle.iv_lines.specs.Named.{name_index}
use Rattle.iv_lines.specs.Read.{IsWithin, Fits}
use Rattle.iv_lines.specs.RecordValue.{RecordValue}
use Rattle.iv_lines.proofs.LengthLemmas.{length-with_length, length_at-with_length, length_at-other, rank-within}
use Rattle.iv_track.specs.Tracked.{Tracked}
use Rattle.iv_lines.proofs.ListLemmas.{Mem, all-mem, mem-all, any-found, any-at, any-none, any-from_none, mem-filter, mem-filter_from}
use Rattle.iv_lines.specs.declared.fault.Fault.{Fault}
use Rattle.iv_lines.specs.declared.fault.Fault.TheVariants as fault
use Rattle.iv_fasta.specs.Fasta.{Bases, bases_of, HasLengthsOf}
use Rattle.iv_track.specs.Regions.{overlaps}
use Rattle.iv_view.specs.Views.{second_records}
use Rattle.iv_workspace.specs.OpenViews.{Shown}
use Rattle.iv_workspace.specs.Resizes.{reaches_past, has_record_past, has_other_bases, resized}
use Rattle.iv_workspace.specs.States.{State}
use Rattle.iv_workspace.specs.Inside.States.{IsTrackOn, IsSession}

-- ---- records past a length

past_parts : (seq n : ℕ) (q : RecordValue) → reaches_past seq n q ≡ true → (q.seq ≡ seq) × (n < q.stop)
past_parts seq n q h =
    let parts = and_parts (q.seq == seq) (nat_lt n q.stop) h in
    (exact_unsigned_eq q.seq seq parts.0, ltb-true n q.stop parts.1)

-- a record on the sequence that isn't past the length ends within it
not-past : (seq n : ℕ) (q : RecordValue) → reaches_past seq n q ≡ false → q.seq ≡ seq → q.stop ≤ n
not-past seq n q h same = elim (and_cases (q.seq == seq) (nat_lt n q.stop) h) [
  | inl differ ↦ absurd (eqb-false q.seq seq differ same)
  | inr low ↦ ltb-false n q.stop low
]

-- ---- the hits of what is cut off

any-agree : {X : Type 0} (p t : X → Bool) (xs : List X) → ((q : X) → Mem q xs → p q ≡ t q) → list_any p xs ≡ list_any t xs
any-agree p t [] same = refl
any-agree p t (x ∷ xs) same = ap₂ (λ a b. a || b) (same x (inl refl)) (any-agree p t xs (λ q m. same q (inr m)))

-- a record that stops at most at the end of its sequence is a hit of what is cut off exactly if it is past the new end
cut-overlaps : (seq n end : ℕ) (q : RecordValue) → q.start < q.stop → (q.seq ≡ seq → q.stop ≤ end) → overlaps seq n end q ≡ reaches_past seq n q
cut-overlaps seq n end q some within = elim (cases_eq q.seq seq) [
  | inl same ↦
      let top : q.stop ≤ end = within same in
      ap (λ b. (q.seq == seq) && (b && nat_lt n q.stop)) (lt-ltb q.start end (omega (arith, some, top)))
  | inr differ ↦
      let off : (q.seq == seq) ≡ false = ne_eqb q.seq seq differ in
      ap (λ b. b && (nat_lt q.start end && nat_lt n q.stop)) off ∙ sym (ap (λ b. b && nat_lt n q.stop) off)
]

any-none_left : {X : Type 0} (p : X → Bool) (xs : List X) → filter p xs ≡ [] → list_any p xs ≡ false
any-none_left p xs none = false_from_ne_true (list_any p xs) (λ yes.
    let found = any-found p xs yes in
    subst (λ l. Mem found.0 l) none (mem-filter_from p xs found.0 found.1 found.2))

any-some_left : {X : Type 0} (p : X → Bool) (xs ys : List X) (y : X) → filter p xs ≡ y ∷ ys → list_any p xs ≡ true
any-some_left p xs ys y is =
    let there = mem-filter p xs y (subst (λ l. Mem y l) (sym is) (inl refl)) in
    any-at p xs y there.0 there.1

-- an iterator over what passes a test gives one exactly if some element passes
first-any : {H : Type 0} (items : H → List RecordValue) (p : RecordValue → Bool) (records : List RecordValue) (left rest : H) (r : Option RecordValue)
    → items left ≡ filter p records → YieldsFirst items left r rest → is_some r ≡ list_any p records
first-any items p records left rest None is gives = sym (any-none_left p records (sym is ∙ gives.0))
first-any items p records left rest (Some q) is gives = sym (any-some_left p records (items rest) q (sym is ∙ gives))

pub hit-past : {H : Type 0} (items : H → List RecordValue) (seq n end : ℕ) (records : List RecordValue) (left rest : H) (r : Option RecordValue)
    → All (λ q. q.start < q.stop) records → All (λ q. q.seq ≡ seq → q.stop ≤ end) records
    → items left ≡ filter (overlaps seq n end) records → YieldsFirst items left r rest → is_some r ≡ list_any (reaches_past seq n) records
hit-past items seq n end records left rest r some within is gives =
    first-any items (overlaps seq n end) records left rest r is gives
    ∙ any-agree (overlaps seq n end) (reaches_past seq n) records (λ q m.
    cut-overlaps seq n end q (all-mem (λ (x : RecordValue). x.start < x.stop) records some q m) (all-mem (λ (x : RecordValue). x.seq ≡ seq → x.stop ≤ end) records within q m))

-- ---- the records of a session's track, and their ends

module _ (g : Sequences) (t : Tracked) (is : IsTrackOn g t) where
  is_placed : (q : RecordValue) → Mem q t.records → (q.start < q.stop) × IsWithin g q.seq q.stop
  is_placed q m = let fits = all-mem (Fits g t.width) t.records is.fit q m in (fits.is_placed.some, fits.is_placed.within)

  pub rows-some : All (λ q. q.start < q.stop) t.records
  rows-some = mem-all (λ (q : RecordValue). q.start < q.stop) t.records (λ q m. (is_placed q m).0)

  pub rows-within : (seq end : ℕ) → end ≡ unwrap_or (length_at g seq) 0 → All (λ q. q.seq ≡ seq → q.stop ≤ end) t.records
  rows-within seq end at = mem-all (λ (q : RecordValue). q.seq ≡ seq → q.stop ≤ end) t.records (λ q m same.
      let top : q.stop ≤ unwrap_or (length_at g q.seq) 0 = (is_placed q m).1.1 in
      let here : unwrap_or (length_at g q.seq) 0 ≡ end = ap (λ (k : ℕ). unwrap_or (length_at g k) 0) same ∙ sym at in
      omega (arith, top, here))

  -- none is past a length that isn't below that of the sequence
  pub none-past : (seq n end : ℕ) → end ≡ unwrap_or (length_at g seq) 0 → end ≤ n → list_any (reaches_past seq n) t.records ≡ false
  none-past seq n end at low = any-from_none (reaches_past seq n) t.records (λ q m. false_from_ne_true (reaches_past seq n q) (λ yes.
      let parts = past_parts seq n q yes in
      let past : n < q.stop = parts.1 in
      let top : q.stop ≤ end = all-mem (λ (x : RecordValue). x.seq ≡ seq → x.stop ≤ end) t.records (rows-within seq end at) q m parts.0 in
      absurd (omega (arith, past, top, low))))

pub second-none_past : (g : Sequences) (second : Option Tracked) → IfSome second (IsTrackOn g) → (seq n end : ℕ) → end ≡ unwrap_or (length_at g seq) 0 → end ≤ n
    → list_any (reaches_past seq n) (second_records second) ≡ false
second-none_past g None is seq n end at low = refl
second-none_past g (Some t) is seq n end at low = none-past g t is seq n end at low

-- a sequence that doesn't become shorter keeps all its records
pub no_record-past : (inside s : State) (views : List (List ℕ × Shown)) (seq n end : ℕ) → inside ≡ s → IsSession inside.genome inside.track inside.second views
    → end ≡ unwrap_or (length_at inside.genome seq) 0 → end ≤ n → false ≡ has_record_past s seq n
no_record-past inside s views seq n end same is at low =
    sym (or_from _ _ (none-past inside.genome inside.track is.track_is seq n end at low) (second-none_past inside.genome inside.second is.second_is seq n end at low))
    ∙ ap (λ (t : State). has_record_past t seq n) same

-- a record of the track is past it
pub track-past : (inside s : State) (seq n : ℕ) → inside ≡ s → list_any (reaches_past seq n) inside.track.records ≡ true → true ≡ has_record_past s seq n
track-past inside s seq n same past =
    sym (or_left (list_any (reaches_past seq n) inside.track.records) (list_any (reaches_past seq n) (second_records inside.second)) past)
    ∙ ap (λ (t : State). has_record_past t seq n) same

-- none is, and so the second file is looked at
pub second-past : (inside s : State) (second : Option Tracked) (seq n : ℕ) (answer : Bool) → inside ≡ s → list_any (reaches_past seq n) inside.track.records ≡ false → inside.second ≡ second
    → answer ≡ list_any (reaches_past seq n) (second_records second) → answer ≡ has_record_past s seq n
second-past inside s second seq n answer same none is answered =
    answered ∙ ap (λ (o : Option Tracked). list_any (reaches_past seq n) (second_records o)) (sym is)
    ∙ sym (ap (λ b. b || list_any (reaches_past seq n) (second_records inside.second)) none)
    ∙ ap (λ (t : State). has_record_past t seq n) same

-- the second file of a session
pub second-there : (g : Sequences) (second : Option Tracked) (t : Tracked) → IfSome second (IsTrackOn g) → second ≡ Some t → IsTrackOn g t
second-there g second t is there = subst (λ (o : Option Tracked). IfSome o (IsTrackOn g)) there is

-- ---- the session with another length

within-stays : (g : Sequences) (seq n : ℕ) (q : RecordValue) → IsWithin g q.seq q.stop → reaches_past seq n q ≡ false → IsWithin (with_length g seq n) q.seq q.stop
within-stays g seq n q is not =
    let there : q.seq < length g = is.0 in (
      omega (arith, there, length-with_length g seq n),
      elim (cases_eq q.seq seq) [
        | inl same ↦
            let one : length_at (with_length g seq n) q.seq ≡ Some n =
            ap (length_at (with_length g seq n)) same ∙ length_at-with_length g seq n (omega (arith, there, same)) in
            subst (λ (o : Option ℕ). q.stop ≤ unwrap_or o 0) (sym one) (not-past seq n q not same)
        | inr differ ↦ subst (λ (o : Option ℕ). q.stop ≤ unwrap_or o 0) (sym (length_at-other g seq n q.seq differ)) is.1
      ],
    )

fits-stays : (g : Sequences) (width seq n : ℕ) (q : RecordValue) → Fits g width q → reaches_past seq n q ≡ false → Fits (with_length g seq n) width q
fits-stays g width seq n q is not = record {
  width_is = is.width_is;
  is_placed = record { some = is.is_placed.some; within = within-stays g seq n q is.is_placed.within not };
  beside = is.beside;
}

track-resized : (g : Sequences) (t : Tracked) (seq n : ℕ) → IsTrackOn g t → list_any (reaches_past seq n) t.records ≡ false → IsTrackOn (with_length g seq n) t
track-resized g t seq n is none = record {
  low = is.low;
  high = is.high;
  fit = mem-all (Fits (with_length g seq n) t.width) t.records (λ q m.
      fits-stays g t.width seq n q (all-mem (Fits g t.width) t.records is.fit q m) (any-none (reaches_past seq n) t.records none q m));
  few = is.few;
}

second-resized : (g : Sequences) (second : Option Tracked) (seq n : ℕ) → IfSome second (IsTrackOn g) → list_any (reaches_past seq n) (second_records second) ≡ false
    → IfSome second (IsTrackOn (with_length g seq n))
second-resized g None seq n is none = tt
second-resized g (Some t) seq n is none = track-resized g t seq n is none

-- if no record is past the new end, all records fit
pub session-resized : (inside s : State) (g : Sequences) (views : List (List ℕ × Shown)) (seq n : ℕ) → inside ≡ s → IsSession inside.genome inside.track inside.second views
    → g ≡ with_length inside.genome seq n → has_record_past s seq n ≡ false → IsSession g inside.track inside.second views
session-resized inside s g views seq n same is new none =
    let clear = or_parts (list_any (reaches_past seq n) inside.track.records) (list_any (reaches_past seq n) (second_records inside.second))
    (ap (λ (t : State). has_record_past t seq n) same ∙ none) in
    subst (λ (h : Sequences). IsSession h inside.track inside.second views) (sym new) (record {
      track_is = track-resized inside.genome inside.track seq n is.track_is clear.0;
      second_is = second-resized inside.genome inside.second seq n is.second_is clear.1;
      served = is.served;
      fresh = is.fresh;
    })

-- ---- what a resize answers

-- the session with this length of the sequence of a rank, if there is one
abbrev pub resized_if : State → Option ℕ → ℕ → Result State Fault
resized_if s at n = if_ok (ok_or at fault.UnknownSeq) (λ seq.
    if has_record_past s seq n then Err fault.Shorter
    else if has_other_bases s.bases seq n then Err fault.Fixed
    else Ok (record s { genome = with_length s.genome seq n }))

module _ (s : State) (name : List ℕ) (n : ℕ) where
  pub resized-unknown : name_index s.genome name ≡ None → resized s name n ≡ Err fault.UnknownSeq
  resized-unknown none = ap (λ (o : Option ℕ). resized_if s o n) none

  pub resized-shorter : (seq : ℕ) → name_index s.genome name ≡ Some seq → has_record_past s seq n ≡ true → resized s name n ≡ Err fault.Shorter
  resized-shorter seq at past = ap (λ (o : Option ℕ). resized_if s o n) at ∙ cond-true _ _ _ past

  pub resized-fixed : (seq : ℕ) → name_index s.genome name ≡ Some seq → has_record_past s seq n ≡ false → has_other_bases s.bases seq n ≡ true
      → resized s name n ≡ Err fault.Fixed
  resized-fixed seq at past other = ap (λ (o : Option ℕ). resized_if s o n) at ∙ cond-false _ _ _ past ∙ cond-true _ _ _ other

  pub resized-done : (seq : ℕ) → name_index s.genome name ≡ Some seq → has_record_past s seq n ≡ false → has_other_bases s.bases seq n ≡ false
      → resized s name n ≡ Ok (record s { genome = with_length s.genome seq n })
  resized-done seq at past other = ap (λ (o : Option ℕ). resized_if s o n) at ∙ cond-false _ _ _ past ∙ cond-false _ _ _ other

-- the session as its fields are written
pub resized-in : (inside s : State) (g : Sequences) (name : List ℕ) (seq n : ℕ) → inside ≡ s → Some seq ≡ name_index inside.genome name → has_record_past s seq n ≡ false
    → has_other_bases s.bases seq n ≡ false → g ≡ with_length inside.genome seq n → resized s name n ≡ Ok (record inside { genome = g })
resized-in inside s g name seq n same at past other is =
    resized-done s name n seq (ap (λ (t : State). name_index t.genome name) (sym same) ∙ sym at) past other
    ∙ ap (λ (t : State). Ok (record t { genome = with_length t.genome seq n })) (sym same)
    ∙ ap (λ (h : Sequences). Ok (record inside { genome = h })) (sym is)

-- ---- the bases of a FASTA file

-- there is a count, and it is another
abbrev pub is_other : Option ℕ → ℕ → Bool
is_other count n = option_map_or (λ k. not (k == n)) count false

same-count : (o : Option (List ℕ)) (bases : List ℕ) (n : ℕ) → o ≡ Some bases → is_other (option_map length o) n ≡ false → length bases ≡ n
same-count o bases n at not_other =
    let differs : not (length bases == n) ≡ false = ap (λ (p : Option (List ℕ)). is_other (option_map length p) n) (sym at) ∙ not_other in
    eqb-true (length bases) n (not-false (length bases == n) differs)

lengths-corrected : (g : Sequences) (fasta : Bases) (seq n : ℕ) → HasLengthsOf g fasta → seq < length g → has_other_bases (Some fasta) seq n ≡ false
    → HasLengthsOf (with_length g seq n) fasta
lengths-corrected g fasta seq n are within not_other k bases at = elim (cases_eq k seq) [
  | inl same ↦
      let count : length bases ≡ n = same-count (bases_of fasta seq) bases n (ap (bases_of fasta) (sym same) ∙ at) not_other in
      ap (length_at (with_length g seq n)) same ∙ length_at-with_length g seq n within ∙ ap (λ (m : ℕ). Some m) (sym count)
  | inr differ ↦ length_at-other g seq n k differ ∙ are k bases at
]

-- what follows from an accepted resize
accepted : (old new : State) (name : List ℕ) (n : ℕ) → resized old name n ≡ Ok new
    → (seq : ℕ) × (name_index old.genome name ≡ Some seq) × (has_other_bases old.bases seq n ≡ false) × (record old { genome = with_length old.genome seq n } ≡ new)
accepted old new name n is = by (name_index old.genome name) refl is
  where
    by : (o : Option ℕ) → name_index old.genome name ≡ o → resized_if old o n ≡ Ok new
        → (seq : ℕ) × (name_index old.genome name ≡ Some seq) × (has_other_bases old.bases seq n ≡ false) × (record old { genome = with_length old.genome seq n } ≡ new)
    by None at is = absurd (cc is)
    by (Some seq) at is = elim (cases_Bool (has_record_past old seq n)) [
      | inl past ↦
          let never : ◌≡◌ {A = Result State Fault} (Err fault.Shorter) (Ok new) = sym (cond-true _ _ _ past) ∙ is in
          absurd (cc never)
      | inr clear ↦ elim (cases_Bool (has_other_bases old.bases seq n)) [
        | inl other ↦
            let never : ◌≡◌ {A = Result State Fault} (Err fault.Fixed) (Ok new) = sym (cond-false _ _ _ clear ∙ cond-true _ _ _ other) ∙ is in
            absurd (cc never)
        | inr same ↦
            let done : ◌≡◌ {A = Result State Fault} (Ok (record old { genome = with_length old.genome seq n })) (Ok new) = sym (cond-false _ _ _ clear ∙ cond-false _ _ _ same) ∙ is in
            (seq, at, same, cc done)
      ]
    ]

pub lengths-resized : (old new : State) (fasta : Bases) (name : List ℕ) (n : ℕ) → old.bases ≡ Some fasta → HasLengthsOf old.genome fasta → resized old name n ≡ Ok new
    → HasLengthsOf new.genome fasta
lengths-resized old new fasta name n there are is =
    let took = accepted old new name n is in
    subst (λ (s : State). HasLengthsOf s.genome fasta) took.3
    (lengths-corrected old.genome fasta took.0 n are (rank-within old.genome name took.0 took.1) (ap (λ (o : Option Bases). has_other_bases o took.0 n) (sym there) ∙ took.2))
