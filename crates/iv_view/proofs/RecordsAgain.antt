-- The row of a record, read again, is the record; and the file of such rows has these records.
use Rattle.std.proofs.Common.{◌≡◌, ◌≢◌, ℕ, zero, suc, ◌+◌, ◌-◌, ◌*◌, ◌/◌, ◌%◌, ◌^◌, ◌<◌, ◌≤◌, inl, inr, Bool, true, false, not, ◌==◌, ◌&&◌, ◌||◌, nat_le, nat_lt, cond, List, [], ◌∷◌, ◌++◌, Option, None, Some, Result, Ok, Err, All, MatchOption, length, length-append, take, map, find, flat_map, position, get_or, get_or-take, length-take, refl, sym, ap, subst, ◌∙◌, arith, append_assoc, append-nil, codes, decimal, unwrap_or}
use Rattle.std.specs.Char.{is_ascii_digit}
use Rattle.std.specs.Io.BufRead.{strip_last}
use Rattle.std.specs.List.{onto_first, list_any, join_with_byte}
use Rattle.std.specs.Option.{is_none}
use Rattle.std.specs.Str.{all_ascii_digits, bytes_eq}
use Rattle.std.proofs.lemmas.Bool.{and_cases, and_parts, cases_lt, cond-false, cond-true, eq-eqb, false≢true, le-ltb, leb-false, leb-true, lt-leb, ne_eqb, or_from, or_parts}
use Rattle.std.proofs.lemmas.Bool.Decides.{nat_tests}
use Rattle.std.proofs.lemmas.Fmt.{decimal_by_steps, decimal_nonempty, length-decimal-le}
use Rattle.std.proofs.lemmas.List.{get_or_past}
use Rattle.std.proofs.lemmas.List.Elements.{All-nil, All-cons, All-head, All-tail, All-take, All-append, All-weaker, All-push}
use Rattle.std.proofs.lemmas.List.Quantifiers.{position-Some}
use Rattle.std.proofs.lemmas.List.Splits.{join_with_byte-slice_split}
use Rattle.std.proofs.lemmas.Option.{slice_get-map, slice_get-get_or}
use Rattle.std.proofs.lemmas.Slice.Eq.{bytes_eq-Decides}
use Rattle.iv_text.specs.BedFile.{is_skipped_line, is_headed, is_width, Bed, Draft, after_record, bed_of}
use Rattle.iv_text.specs.BedReading.{after_records}
use Rattle.iv_text.specs.Inside.BedFile.{width_at, with_row}
use Rattle.iv_lines.specs.Fields.{columns, fields}
use Rattle.iv_lines.specs.Genome.{Sequences, length_at, sequence_name}
use Rattle.iv_lines.specs.Inside.Fields.{HasNoTab, is_separator}
use Rattle.iv_lines.specs.Lines.{lines, HasNoFeed, begins_with}
use Rattle.iv_lines.specs.Named.{names_of, name_index}
use Rattle.iv_lines.specs.Number.{number}
use Rattle.iv_lines.specs.Inside.Number.{decimal_from}
use Rattle.iv_lines.specs.Ordered.{ordered}
use Rattle.iv_lines.specs.Read.{read, read_columns, feature, column, has_fault, faults, bad_text, number_in, length_of, Fits}
use Rattle.iv_lines.specs.Chains.{if_ok, unless_fault}
use Rattle.iv_lines.specs.Inside.Read.{is_line_byte}
use Rattle.iv_lines.specs.RecordText.{record_text, strand_text}
use Rattle.iv_lines.specs.RecordValue.{RecordValue, strand_of, record_cmp}
use Rattle.iv_lines.specs.declared.fault.Fault.{Fault}
use Rattle.iv_lines.specs.declared.fault.Fault.TheVariants as fault
use Rattle.iv_lines.specs.declared.fault.LoadCause.{LoadCause}
use Rattle.iv_lines.specs.declared.fault.LoadCause.TheVariants as cause
use Rattle.iv_lines.specs.declared.fault.LoadFault.{LoadFault}
use Rattle.iv_lines.specs.declared.record_ref.Strand.{Strand}
use Rattle.iv_lines.specs.declared.record_ref.Strand.TheVariants.{Plus, Minus, Dot}
use Rattle.iv_text.proofs.BedLemmas.{row-unread, row-columns, row-taken}
use Rattle.iv_lines.proofs.FileMeaningLemmas.{same-ok, ok-err}
use Rattle.iv_lines.proofs.LineLemmas.{lines-line, strip-front, strip-kept}
use Rattle.iv_lines.proofs.NumberLemmas.{decimal-more, digits-more, number-is, digit-bound, bound-more, powers-grow}
use Rattle.iv_lines.proofs.FieldLemmas.{column-more, column-last}
use Rattle.iv_text.proofs.OnePassLemmas.{read-ranked}
use Rattle.iv_lines.proofs.OrderedLemmas.{length-all_added, ordered-all}
use Rattle.iv_lines.proofs.ReadLemmas.{count-sound, passed, read-parts}
use Rattle.iv_view.specs.Inside.RowsAgain.{IsOfLine, IsBedRow}
use Rattle.iv_pair.specs.IntersectRows.{record_line}
use Rattle.iv_view.specs.Inside.Texts.{records_text}

-- the file that is known after its lines, or its first fault
abbrev finished : ℕ → Result Draft LoadFault → Result Bed LoadFault
finished empty known = if_ok known (λ d. Ok (record { width = unwrap_or d.width empty; records = d.records }))

-- ---- numbers in decimal

-- digits that mean n
abbrev Means : ℕ → List ℕ → Type 0
Means n ds = (all_ascii_digits ds ≡ true) × (decimal_from 0 ds ≡ n)

digit : (d : ℕ) → d < 10 → is_ascii_digit (48 + d) ≡ true
digit d low = grind (arith, nat_tests)

decimal-means : (n : ℕ) → n < 2 ^ 64 → Means n (decimal n)
decimal-means n small = decimal_by_steps Means one more n small
  where
    one : (n : ℕ) → n < 10 → Means n ((48 + n) ∷ [])
    one n low = (digits-more [] (48 + n) refl (digit n low), omega arith)

    more : (n : ℕ) (ds : List ℕ) → 10 ≤ n → Means (n / 10) ds → Means n (ds ++ ((48 + n % 10) ∷ []))
    more n ds high means = (
      digits-more ds (48 + n % 10) means.0 (digit (n % 10) (omega arith)),
      decimal-more 0 ds (48 + n % 10) ∙ omega (arith, means.1),
    )

decimal-number : (n : ℕ) → n < 10 ^ 10 → number (decimal n) ≡ Some n
decimal-number n low =
    let small : n < 2 ^ 64 = omega arith in
    let means = decimal-means n small in
    number-is (decimal n) (decimal_nonempty n small) (length-decimal-le 10 n (omega arith) low small) means.0 ∙ ap Some means.1

-- what holds of each digit holds of digits
digits-all : (P : ℕ → Type 0) → ((b : ℕ) → is_ascii_digit b ≡ true → P b) → (ds : List ℕ) → all_ascii_digits ds ≡ true → All P ds
digits-all P each [] all = All-nil P
digits-all P each (d ∷ ds) all =
    let both = and_parts (is_ascii_digit d) (all_ascii_digits ds) all in
    All-cons P d ds (each d both.0) (digits-all P each ds both.1)

decimal-tab : (n : ℕ) → n < 2 ^ 64 → HasNoTab (decimal n)
decimal-tab n small = digits-all (λ b. is_separator 9 b ≡ false) (λ b is. ne_eqb b 9 (λ e. false≢true (ap is_ascii_digit (sym e) ∙ is))) (decimal n) (decimal-means n small).0

digits-below : (k n : ℕ) (ds : List ℕ) → n < 10 ^ k → all_ascii_digits ds ≡ true → decimal_from n ds < 10 ^ (k + length ds)
digits-below k n [] low all = let same : k + 0 ≡ k = omega arith in subst (λ j. n < 10 ^ j) (sym same) low
digits-below k n (d ∷ ds) low all =
    let both = and_parts (is_ascii_digit d) (all_ascii_digits ds) all in
    let same : k + 1 + length ds ≡ k + suc (length ds) = omega arith in
    subst (λ j. decimal_from (n * 10 + (d - 48)) ds < 10 ^ j) same (digits-below (k + 1) (n * 10 + (d - 48)) ds (bound-more n d k low (digit-bound d both.0)) both.1)

-- a number has at most ten digits
number-small : (ds : List ℕ) (n : ℕ) → number ds ≡ Some n → n < 10 ^ 10
number-small ds n is = by (nat_lt 0 (length ds) && nat_lt (length ds) 11 && all_ascii_digits ds) refl
  where
    by : (t : Bool) → (nat_lt 0 (length ds) && nat_lt (length ds) 11 && all_ascii_digits ds) ≡ t → n < 10 ^ 10
    by true e =
        let all = (and_parts (nat_lt 0 (length ds) && nat_lt (length ds) 11) (all_ascii_digits ds) e) in
        let few : length ds ≤ 10 = grind (arith, nat_tests, (and_parts (nat_lt 0 (length ds)) (nat_lt (length ds) 11) all.0).1) in
        let same : ◌≡◌ {A = Option ℕ} (Some (decimal_from 0 ds)) (Some n) = sym (cond-true _ _ _ e) ∙ is in
        let value : decimal_from 0 ds ≡ n = cc in
        let low : decimal_from 0 ds < 10 ^ (0 + length ds) = digits-below 0 0 ds (omega arith) all.1 in
        let most : 10 ^ (0 + length ds) ≤ 10 ^ 10 = powers-grow (0 + length ds) 10 (omega arith) in
        omega arith
    by false e = let none : ◌≡◌ {A = Option ℕ} None (Some n) = sym (cond-false _ _ _ e) ∙ is in cc

-- ---- columns of a text

onto-all : (P : ℕ → Type 0) (x : ℕ) (parts : List (List ℕ)) → P x → ((k : ℕ) → All P (column parts k)) → (k : ℕ) → All P (column (onto_first x parts) k)
onto-all P x [] here each zero = All-cons P x [] here (All-nil P)
onto-all P x [] here each (suc k) = All-nil P
onto-all P x (part ∷ parts) here each zero = All-cons P x part here (each 0)
onto-all P x (part ∷ parts) here each (suc k) = each (suc k)

-- what holds of each byte that isn't a separator holds of each byte of each field
fields-all : (separator : ℕ) (P : ℕ → Type 0) (xs : List ℕ) → All (λ b. is_separator separator b ≡ false → P b) xs → (k : ℕ) → All P (column (fields separator xs) k)
fields-all separator P [] each zero = All-nil P
fields-all separator P [] each (suc k) = All-nil P
fields-all separator P (x ∷ xs) each k = by (is_separator separator x) refl (fields-all separator P xs (All-tail (λ b. is_separator separator b ≡ false → P b) x xs each)) k
  where
    by : (t : Bool) → is_separator separator x ≡ t → ((k : ℕ) → All P (column (fields separator xs) k)) → (k : ℕ) → All P (column (cond t ([] ∷ fields separator xs) (onto_first x (fields separator xs))) k)
    by true is rest zero = All-nil P
    by true is rest (suc k) = rest k
    by false is rest k = onto-all P x (fields separator xs) (All-head (λ b. is_separator separator b ≡ false → P b) x xs each is) rest k

columns-tab : (line : List ℕ) (k : ℕ) → HasNoTab (column (columns line) k)
columns-tab line = fields-all 9 (λ b. is_separator 9 b ≡ false) line (λ k d within is. is)

-- columns that are put after a column, each after a TAB
columns-put : (cells : List (List ℕ)) → All HasNoTab cells → (column : List ℕ) → HasNoTab column → columns (column ++ flat_map (λ c. codes "\t" ++ c) cells) ≡ column ∷ cells
columns-put [] plain column own = column-last column own
columns-put (cell ∷ cells) plain column own =
    column-more column (cell ++ flat_map (λ c. codes "\t" ++ c) cells) own
    ∙ ap (λ (cs : List (List ℕ)). column ∷ cs) (columns-put cells (All-tail HasNoTab cell cells plain) cell (All-head HasNoTab cell cells plain))

-- the text of columns of which the first three are named
text_of : List ℕ → List ℕ → List ℕ → List (List ℕ) → List ℕ
text_of name start stop cells = (name ++ codes "\t" ++ start ++ codes "\t" ++ stop) ++ flat_map (λ c. codes "\t" ++ c) cells

text-parts : (name start stop : List ℕ) (cells : List (List ℕ)) → text_of name start stop cells ≡ name ++ 9 ∷ (start ++ 9 ∷ (stop ++ flat_map (λ c. codes "\t" ++ c) cells))
unfolding text_of
text-parts name start stop cells =
    simp append_assoc

text-columns : (name start stop : List ℕ) (cells : List (List ℕ)) → HasNoTab name → HasNoTab start → HasNoTab stop → All HasNoTab cells → columns (text_of name start stop cells) ≡ name ∷ start ∷ stop ∷ cells
text-columns name start stop cells p q r plain =
    ap columns (text-parts name start stop cells)
    ∙ column-more name (start ++ 9 ∷ (stop ++ flat_map (λ c. codes "\t" ++ c) cells)) p
    ∙ ap (λ (cs : List (List ℕ)). name ∷ cs) (column-more start (stop ++ flat_map (λ c. codes "\t" ++ c) cells) q)
    ∙ ap (λ (cs : List (List ℕ)). name ∷ start ∷ cs) (columns-put cells plain stop r)

-- ---- columns that mean the same

alike : (g : Sequences) (w : ℕ) (cs ds : List (List ℕ)) → length ds ≡ length cs → column ds 0 ≡ column cs 0 → number (column ds 1) ≡ number (column cs 1) → number (column ds 2) ≡ number (column cs 2)
    → column ds 3 ≡ column cs 3 → column ds 4 ≡ column cs 4 → strand_of (column ds 5) ≡ strand_of (column cs 5) → read_columns g w ds ≡ read_columns g w cs
alike g w cs ds long first start stop name score strand = λ i. unless_fault (find (λ f. same f i) faults) (Ok (records i))
  where
    same : (f : Fault) → has_fault g w ds f ≡ has_fault g w cs f
    same fault.Columns = ap (λ (n : ℕ). not (n == w)) long
    same fault.UnknownSeq = ap (λ (c : List ℕ). is_none (name_index g c)) first
    same fault.StartNumber = ap is_none start
    same fault.StopNumber = ap is_none stop
    same fault.Order = λ i. nat_le (unwrap_or (stop i) 0) (unwrap_or (start i) 0)
    same fault.PastEnd = λ i. nat_lt (length_of g (first i)) (unwrap_or (stop i) 0)
    same fault.Name = ap (λ (c : List ℕ). nat_le 4 w && bad_text c) name
    same fault.Score = ap (λ (c : List ℕ). nat_le 5 w && bad_text c) score
    same fault.Strand = ap (λ (s : Option Strand). nat_le 6 w && is_none s) strand
    same other = refl

    records : feature g w ds ≡ feature g w cs
    records = λ i. record {
      seq = unwrap_or (name_index g (first i)) 0;
      start = unwrap_or (start i) 0;
      stop = unwrap_or (stop i) 0;
      name = name i;
      score = score i;
      strand = strand i;
      width = w;
    }

-- ---- columns without a fault

some-is : (o : Option ℕ) → is_none o ≡ false → o ≡ Some (unwrap_or o 0)
some-is None none = cc
some-is (Some n) none = refl

-- the name at the rank of a name
name-at : (g : Sequences) (name : List ℕ) (rank : ℕ) → name_index g name ≡ Some rank → sequence_name g rank ≡ name
name-at g name rank at =
    let found = position-Some (bytes_eq name) (names_of g) rank [] at in
    ap (λ (o : Option (List ℕ)). unwrap_or o []) (sym (slice_get-map (λ (s : List ℕ × ℕ). s.0) g rank) ∙ slice_get-get_or (names_of g) rank [] found.0)
    ∙ sym ((bytes_eq-Decides name (get_or (names_of g) rank [])).0 found.1)

strand-back : (o : Option Strand) → strand_of (strand_text o) ≡ o
strand-back (Some Plus) = refl
strand-back o = refl

strand-tab : (o : Option Strand) → HasNoTab (strand_text o)
strand-tab None = All-nil (λ b. is_separator 9 b ≡ false)
strand-tab (Some Plus) = All-cons (λ b. is_separator 9 b ≡ false) 43 [] refl (All-nil (λ b. is_separator 9 b ≡ false))
strand-tab (Some Minus) = All-cons (λ b. is_separator 9 b ≡ false) 45 [] refl (All-nil (λ b. is_separator 9 b ≡ false))
strand-tab (Some Dot) = All-cons (λ b. is_separator 9 b ≡ false) 46 [] refl (All-nil (λ b. is_separator 9 b ≡ false))

-- a column of the first ones
cell-at : (n : ℕ) (cells : List (List ℕ)) (j : ℕ) (P : List ℕ → Type 0) → (j < n → P (column cells j)) → (n ≤ j → P []) → P (column (take n cells) j)
cell-at n cells j P within past = elim (cases_lt j n) [
  | inl low ↦ subst P (sym (get_or-take n cells j [] low)) (within low)
  | inr high ↦ subst P (sym (get_or_past (take n cells) j [] (omega (arith, length-take n cells)))) (past high)
]

-- columns without a fault, printed and read again, are the same record
row-again : (g : Sequences) (w : ℕ) (cs : List (List ℕ)) → 3 ≤ w → w ≤ 6 → ((k : ℕ) → HasNoTab (column cs k)) → find (has_fault g w cs) faults ≡ None
    → read g w (record_text g (feature g w cs)) ≡ Ok (feature g w cs)
unfolding text_of
row-again g w cs low high plain none =
    let free = passed (has_fault g w cs) faults none in
    let r : RecordValue = feature g w cs in
    let many : length cs ≡ w = count-sound g w cs none in
    let named : sequence_name g r.seq ≡ column cs 0 = name-at g (column cs 0) r.seq (some-is (name_index g (column cs 0)) free.1.0) in
    let starts : number (column cs 1) ≡ Some r.start = some-is (number (column cs 1)) free.1.1.0 in
    let stops : number (column cs 2) ≡ Some r.stop = some-is (number (column cs 2)) free.1.1.1.0 in
    let start_low : r.start < 10 ^ 10 = number-small (column cs 1) r.start starts in
    let stop_low : r.stop < 10 ^ 10 = number-small (column cs 2) r.stop stops in
    let cells : List (List ℕ) = r.name ∷ r.score ∷ strand_text r.strand ∷ [] in
    let cells_plain : All HasNoTab cells = All-cons HasNoTab r.name (r.score ∷ strand_text r.strand ∷ []) (plain 3) (All-cons HasNoTab r.score (strand_text r.strand ∷ []) (plain 4)
    (All-cons HasNoTab (strand_text r.strand) [] (strand-tab r.strand) (All-nil HasNoTab))) in
    let ds : List (List ℕ) = sequence_name g r.seq ∷ decimal r.start ∷ decimal r.stop ∷ take (w - 3) cells in
    ap (read_columns g w) (text-columns (sequence_name g r.seq) (decimal r.start) (decimal r.stop) (take (w - 3) cells) (subst HasNoTab (sym named) (plain 0))
    (decimal-tab r.start (omega arith)) (decimal-tab r.stop (omega arith)) (All-take HasNoTab (w - 3) cells cells_plain))
    ∙ alike g w cs ds (omega (arith, length-take (w - 3) cells)) named (decimal-number r.start start_low ∙ sym starts) (decimal-number r.stop stop_low ∙ sym stops)
    (cell-at (w - 3) cells 0 (λ c. c ≡ column cs 3) (λ _. refl) (λ past. sym (get_or_past cs 3 [] (omega arith))))
    (cell-at (w - 3) cells 1 (λ c. c ≡ column cs 4) (λ _. refl) (λ past. sym (get_or_past cs 4 [] (omega arith))))
    (cell-at (w - 3) cells 2 (λ c. strand_of c ≡ strand_of (column cs 5)) (λ _. strand-back (strand_of (column cs 5))) (λ past. ap strand_of (sym (get_or_past cs 5 [] (omega arith)))))
    ∙ ap (λ (o : Option Fault). unless_fault o (Ok r)) none

-- the text of the record of a line means it again
pub line-again : (g : Sequences) (w : ℕ) (line : List ℕ) (r : RecordValue) → 3 ≤ w → w ≤ 6 → read g w line ≡ Ok r → read g w (record_text g r) ≡ Ok r
line-again g w line r low high reads =
    let parts = read-parts g w line r reads in
    subst (λ (q : RecordValue). read g w (record_text g q) ≡ Ok q) parts.1 (row-again g w (columns line) low high (columns-tab line) parts.0)

-- ---- other lengths

-- a line means the same record while the names are the same and the record is within its sequence
pub line-lengths : (g h : Sequences) (w : ℕ) (line : List ℕ) (r : RecordValue) → names_of h ≡ names_of g → Fits h w r → read g w line ≡ Ok r → read h w line ≡ Ok r
line-lengths g h w line r named fits reads = (λ i. unless_fault (find (λ f. same f i) faults) (Ok (records i))) ∙ reads
  where
    parts : (find (has_fault g w (columns line)) faults ≡ None) × (feature g w (columns line) ≡ r)
    parts = read-parts g w line r reads

    ranks : name_index h (column (columns line) 0) ≡ name_index g (column (columns line) 0)
    ranks = ap (position (bytes_eq (column (columns line) 0))) named

    within : number_in (column (columns line) 2) ≤ length_of h (column (columns line) 0)
    within =
        let seq_is : unwrap_or (name_index h (column (columns line) 0)) 0 ≡ r.seq = ap (λ (o : Option ℕ). unwrap_or o 0) ranks ∙ ap (λ (q : RecordValue). q.seq) parts.1 in
        let stop_is : number_in (column (columns line) 2) ≡ r.stop = ap (λ (q : RecordValue). q.stop) parts.1 in
        let most : length_of h (column (columns line) 0) ≡ unwrap_or (length_at h r.seq) 0 = ap (λ k. unwrap_or (length_at h k) 0) seq_is in
        omega (arith, fits.is_placed.within.1)

    same : (f : Fault) → has_fault h w (columns line) f ≡ has_fault g w (columns line) f
    same fault.UnknownSeq = ap is_none ranks
    same fault.PastEnd = le-ltb (length_of h (column (columns line) 0)) (number_in (column (columns line) 2)) within ∙ sym ((passed (has_fault g w (columns line)) faults parts.0).1.1.1.1.1.0)
    same other = refl

    records : feature h w (columns line) ≡ feature g w (columns line)
    records = λ i. record {
      seq = unwrap_or (ranks i) 0;
      start = number_in (column (columns line) 1);
      stop = number_in (column (columns line) 2);
      name = column (columns line) 3;
      score = column (columns line) 4;
      strand = strand_of (column (columns line) 5);
      width = w;
    }

-- ---- the bytes of a text

-- no CR, LF or NUL
abbrev IsPlain : ℕ → Type 0
IsPlain b = is_line_byte b ≡ false

digit-line : (b : ℕ) → is_ascii_digit b ≡ true → IsPlain b
digit-line b is = or_from ((b == 13) || (b == 10)) (b == 0) (or_from (b == 13) (b == 10) (ne_eqb b 13 (apart 13 refl)) (ne_eqb b 10 (apart 10 refl))) (ne_eqb b 0 (apart 0 refl))
  where
    apart : (c : ℕ) → is_ascii_digit c ≡ false → b ≡ c → ⊥
    apart c other e = false≢true (sym other ∙ ap is_ascii_digit (sym e) ∙ is)

decimal-line : (n : ℕ) → n < 2 ^ 64 → All IsPlain (decimal n)
decimal-line n small = digits-all IsPlain digit-line (decimal n) (decimal-means n small).0

not-feed : (b : ℕ) → IsPlain b → b ≢ 10
not-feed b plain e = false≢true (sym (or_parts (b == 13) (b == 10) (or_parts ((b == 13) || (b == 10)) (b == 0) plain).0).1 ∙ eq-eqb b 10 e)

not-return : (b : ℕ) → IsPlain b → b ≢ 13
not-return b plain e = false≢true (sym (or_parts (b == 13) (b == 10) (or_parts ((b == 13) || (b == 10)) (b == 0) plain).0).0 ∙ eq-eqb b 13 e)

strand-line : (o : Option Strand) → All IsPlain (strand_text o)
strand-line None = All-nil IsPlain
strand-line (Some Plus) = All-cons IsPlain 43 [] refl (All-nil IsPlain)
strand-line (Some Minus) = All-cons IsPlain 45 [] refl (All-nil IsPlain)
strand-line (Some Dot) = All-cons IsPlain 46 [] refl (All-nil IsPlain)

none-line : (bs : List ℕ) → list_any is_line_byte bs ≡ false → All IsPlain bs
none-line [] none = All-nil IsPlain
none-line (b ∷ bs) none = let both = or_parts (is_line_byte b) (list_any is_line_byte bs) none in All-cons IsPlain b bs both.0 (none-line bs both.1)

-- a column that has no fault, or is past the last one
cell-line : (k w : ℕ) (cs : List (List ℕ)) → length cs ≡ w → (nat_le (k + 1) w && bad_text (column cs k)) ≡ false → All IsPlain (column cs k)
cell-line k w cs many good = elim (and_cases (nat_le (k + 1) w) (bad_text (column cs k)) good) [
  | inl short ↦ subst (All IsPlain) (sym (get_or_past cs k [] (omega (arith, leb-false (k + 1) w short)))) (All-nil IsPlain)
  | inr fine ↦ none-line (column cs k) (or_parts (length (column cs k) == 0) (list_any is_line_byte (column cs k)) fine).1
]

put-line : (cells : List (List ℕ)) → All (λ c. All IsPlain c) cells → All IsPlain (flat_map (λ c. codes "\t" ++ c) cells)
put-line [] plain = All-nil IsPlain
put-line (cell ∷ cells) plain =
    All-cons IsPlain 9 (cell ++ flat_map (λ c. codes "\t" ++ c) cells) refl
    (All-append IsPlain cell (flat_map (λ c. codes "\t" ++ c) cells) (All-head (λ c. All IsPlain c) cell cells plain) (put-line cells (All-tail (λ c. All IsPlain c) cell cells plain)))

-- the text of the record of a line: the name of its sequence, a TAB, and bytes without CR, LF and NUL
record AreParts (g : Sequences) (r : RecordValue) : Type 0 where
  rest : List ℕ
  text_is : record_text g r ≡ sequence_name g r.seq ++ 9 ∷ rest
  plain : All IsPlain rest

row-parts : (g : Sequences) (w : ℕ) (cs : List (List ℕ)) → find (has_fault g w cs) faults ≡ None → AreParts g (feature g w cs)
unfolding text_of
row-parts g w cs none =
    let free = passed (has_fault g w cs) faults none in
    let r : RecordValue = feature g w cs in
    let many : length cs ≡ w = count-sound g w cs none in
    let start_low : r.start < 10 ^ 10 = number-small (column cs 1) r.start (some-is (number (column cs 1)) free.1.1.0) in
    let stop_low : r.stop < 10 ^ 10 = number-small (column cs 2) r.stop (some-is (number (column cs 2)) free.1.1.1.0) in
    let cells : List (List ℕ) = r.name ∷ r.score ∷ strand_text r.strand ∷ [] in
    let AllPlain : List ℕ → Type 0 = λ c. All IsPlain c in
    let cells_plain : All AllPlain cells = All-cons AllPlain r.name (r.score ∷ strand_text r.strand ∷ []) (cell-line 3 w cs many free.1.1.1.1.1.1.0) (All-cons AllPlain r.score (strand_text r.strand ∷ []) (cell-line 4 w cs many free.1.1.1.1.1.1.1.0)
    (All-cons AllPlain (strand_text r.strand) [] (strand-line r.strand) (All-nil AllPlain))) in
    let put : List ℕ = flat_map (λ c. codes "\t" ++ c) (take (w - 3) cells) in
    record {
      rest = decimal r.start ++ 9 ∷ (decimal r.stop ++ put);
      text_is = text-parts (sequence_name g r.seq) (decimal r.start) (decimal r.stop) (take (w - 3) cells);
      plain = All-append IsPlain (decimal r.start) (9 ∷ (decimal r.stop ++ put)) (decimal-line r.start (omega arith))
          (All-cons IsPlain 9 (decimal r.stop ++ put) refl
          (All-append IsPlain (decimal r.stop) put (decimal-line r.stop (omega arith)) (put-line (take (w - 3) cells) (All-take AllPlain (w - 3) cells cells_plain))));
    }

line-parts : (g : Sequences) (w : ℕ) (r : RecordValue) → IsOfLine g w r → AreParts g r
line-parts g w r of =
    let parts = read-parts g w of.0 r of.1 in
    subst (AreParts g) parts.1 (row-parts g w (columns of.0) parts.0)

-- the row of such a record is one line
row-line : (g : Sequences) (w : ℕ) (r : RecordValue) (more : List ℕ) → IsBedRow g w r → lines (record_line g r ++ more) ≡ record_text g r ∷ lines more
row-line g w r more is =
    let parts = line-parts g w r is.of_line in
    let name : List ℕ = sequence_name g r.seq in
    let tail : All IsPlain (9 ∷ parts.rest) = All-cons IsPlain 9 parts.rest refl parts.plain in
    let plain : HasNoFeed (name ++ 9 ∷ parts.rest) = All-append (λ b. b ≢ 10) name (9 ∷ parts.rest) is.one_line (All-weaker IsPlain (λ b. b ≢ 10) not-feed (9 ∷ parts.rest) tail) in
    let kept : strip_last 13 (name ++ 9 ∷ parts.rest) ≡ name ++ 9 ∷ parts.rest = strip-front name 9 parts.rest ∙ ap (λ t. name ++ t) (strip-kept (9 ∷ parts.rest) (All-weaker IsPlain (λ b. b ≢ 13) not-return (9 ∷ parts.rest) tail)) in
    lines-line (record_text g r) more (subst HasNoFeed (sym parts.text_is) plain)
    ∙ ap (λ (l : List ℕ). l ∷ lines more) (subst (λ (t : List ℕ). strip_last 13 t ≡ t) (sym parts.text_is) kept)

rows-lines : (g : Sequences) (w : ℕ) (records : List RecordValue) → All (IsBedRow g w) records → lines (records_text g records) ≡ map (record_text g) records
rows-lines g w [] are = refl
rows-lines g w (r ∷ records) are =
    row-line g w r (records_text g records) (All-head (IsBedRow g w) r records are)
    ∙ ap (λ (ls : List (List ℕ)). record_text g r ∷ ls) (rows-lines g w records (All-tail (IsBedRow g w) r records are))

-- ---- the file of such rows

-- the next step, from what one more line gives
step : (g : Sequences) (limit n : ℕ) (d : Draft) (line : List ℕ) (rest : List (List ℕ)) (r : Result Draft LoadCause) → after_record g limit d line ≡ r
    → after_records g limit n d (line ∷ rest) ≡ elim r as (λ _. Result Draft LoadFault) [ Ok more ↦ after_records g limit (n + 1) more rest | Err c ↦ Err (record { line = n; cause = c }) ]
step g limit n d line rest r is =
    ap (λ (o : Result Draft LoadCause). elim o as (λ _. Result Draft LoadFault) [ Ok more ↦ after_records g limit (n + 1) more rest | Err c ↦ Err (record { line = n; cause = c }) ]) is

module _ (g : Sequences) (limit w : ℕ) (low : 3 ≤ w) (high : w ≤ 6) where
  row-taken_again : (d : Draft) (r : RecordValue) → IsBedRow g w r → w ≡ width_at d (record_text g r) → length d.records < limit
      → after_record g limit d (record_text g r) ≡ Ok (record { width = Some w; records = d.records ++ r ∷ [] })
  row-taken_again d r is wide room =
      row-taken g limit d (record_text g r) w (Ok (record { width = Some w; records = d.records ++ r ∷ [] })) is.unread wide low high
      (ap (with_row limit w d.records) (line-again g w is.of_line.0 r low high is.of_line.1) ∙ cond-false _ _ _ (lt-leb limit (length d.records) room))

  rows-taken_again : (n : ℕ) (done records : List RecordValue) → All (IsBedRow g w) records → length done + length records ≤ limit
      → after_records g limit n (record { width = Some w; records = done }) (map (record_text g) records) ≡ Ok (record { width = Some w; records = done ++ records })
  rows-taken_again n done [] are room = ap (λ (l : List RecordValue). Ok (record { width = Some w; records = l })) (sym (append-nil done))
  rows-taken_again n done (r ∷ records) are room =
      step g limit n (record { width = Some w; records = done }) (record_text g r) (map (record_text g) records) (Ok (record { width = Some w; records = done ++ r ∷ [] }))
      (row-taken_again (record { width = Some w; records = done }) r (All-head (IsBedRow g w) r records are) refl (omega arith))
      ∙ rows-taken_again (n + 1) (done ++ r ∷ []) records (All-tail (IsBedRow g w) r records are) (omega (arith, length-append done (r ∷ [])))
      ∙ ap (λ (l : List RecordValue). Ok (record { width = Some w; records = l })) (append_assoc done (r ∷ []) records)

  -- the file of rows that can be its lines has just these records
  pub file-again : (empty : ℕ) (records : List RecordValue) → All (IsBedRow g w) records → 0 < length records → length records ≤ limit
      → bed_of g empty limit (records_text g records) ≡ Ok (record { width = w; records = records })
  file-again empty [] are some room = absurd (omega arith)
  file-again empty (r ∷ records) are some room =
      let first = All-head (IsBedRow g w) r records are in
      let wide : w ≡ length (columns (record_text g r)) = sym (count-sound g w (columns (record_text g r)) (read-parts g w (record_text g r) r (line-again g w first.of_line.0 r low high first.of_line.1)).0) in
      ap (λ (ls : List (List ℕ)). finished empty (after_records g limit 1 (record { width = None; records = [] }) ls)) (rows-lines g w (r ∷ records) are)
      ∙ ap (finished empty)
      (step g limit 1 (record { width = None; records = [] }) (record_text g r) (map (record_text g) records) (Ok (record { width = Some w; records = r ∷ [] }))
      (row-taken_again (record { width = None; records = [] }) r first wide (omega arith))
      ∙ rows-taken_again 2 (r ∷ []) records (All-tail (IsBedRow g w) r records are) (omega arith))

-- ---- the records of a file

onto-feed : (b : ℕ) (ls : List (List ℕ)) → b ≢ 10 → All HasNoFeed ls → All HasNoFeed (onto_first b ls)
onto-feed b [] other plain = All-cons HasNoFeed (b ∷ []) [] (All-cons (λ c. c ≢ 10) b [] other (All-nil (λ c. c ≢ 10))) (All-nil HasNoFeed)
onto-feed b (l ∷ ls) other plain = All-cons HasNoFeed (b ∷ l) ls (All-cons (λ c. c ≢ 10) b l other (All-head HasNoFeed l ls plain)) (All-tail HasNoFeed l ls plain)

-- no line holds a LF
lines-feed : (text : List ℕ) → All HasNoFeed (lines text)
lines-feed [] = All-nil HasNoFeed
lines-feed (b ∷ bs) = by (b == 10) refl ((b == 13) && begins_with 10 bs) (lines-feed bs)
  where
    by : (t : Bool) → (b == 10) ≡ t → (u : Bool) → All HasNoFeed (lines bs) → All HasNoFeed (cond t ([] ∷ lines bs) (cond u (lines bs) (onto_first b (lines bs))))
    by true is u rest = All-cons HasNoFeed [] (lines bs) (All-nil (λ c. c ≢ 10)) rest
    by false is true rest = rest
    by false is false rest = onto-feed b (lines bs) (λ e. false≢true (sym is ∙ eq-eqb b 10 e)) rest

joined : (cs : List (List ℕ)) → 2 ≤ length cs → (rest : List ℕ) × (join_with_byte 9 cs ≡ column cs 0 ++ 9 ∷ rest)
joined [] many = absurd (omega arith)
joined (c ∷ []) many = absurd (omega arith)
joined (c ∷ d ∷ cs) many = (join_with_byte 9 (d ∷ cs), refl)

-- a header ends before the first TAB
headed-same : (name xs ys : List ℕ) → (is_headed (codes "track") (name ++ 9 ∷ xs) ≡ is_headed (codes "track") (name ++ 9 ∷ ys)) × (is_headed (codes "browser") (name ++ 9 ∷ xs) ≡ is_headed (codes "browser") (name ++ 9 ∷ ys))
headed-same (a ∷ b ∷ c ∷ d ∷ e ∷ f ∷ h ∷ i ∷ more) xs ys = (refl, refl)
headed-same name xs ys = (refl, refl)

begun-same : (name xs ys : List ℕ) → begins_with 35 (name ++ 9 ∷ xs) ≡ begins_with 35 (name ++ 9 ∷ ys)
begun-same [] xs ys = refl
begun-same (b ∷ bs) xs ys = refl

unread-same : (name xs ys : List ℕ) → is_skipped_line (name ++ 9 ∷ xs) ≡ is_skipped_line (name ++ 9 ∷ ys)
unread-same name xs ys =
    let both = headed-same name xs ys in
    let sizes : (length (name ++ 9 ∷ xs) == 0) ≡ (length (name ++ 9 ∷ ys) == 0) = some xs ∙ sym (some ys) in
    λ i. sizes i || begun-same name xs ys i || both.0 i || both.1 i
  where
    some : (zs : List ℕ) → (length (name ++ 9 ∷ zs) == 0) ≡ false
    some zs = ne_eqb (length (name ++ 9 ∷ zs)) 0 (λ e. omega (arith, length-append name (9 ∷ zs)))

-- the record of a line of a file
line-row : (g : Sequences) (w : ℕ) (line : List ℕ) (r : RecordValue) → 3 ≤ w → HasNoFeed line → is_skipped_line line ≡ false → read g w line ≡ Ok r → IsBedRow g w r
line-row g w line r low plain unread reads =
    let cs : List (List ℕ) = columns line in
    let parts = read-parts g w line r reads in
    let free = passed (has_fault g w cs) faults parts.0 in
    let many : length cs ≡ w = count-sound g w cs parts.0 in
    let named : sequence_name g r.seq ≡ column cs 0 = name-at g (column cs 0) r.seq (read-ranked g w line r reads) in
    let whole = joined cs (omega arith) in
    let line_is : line ≡ sequence_name g r.seq ++ 9 ∷ whole.0 = sym (join_with_byte-slice_split 9 line) ∙ whole.1 ∙ ap (λ t. t ++ 9 ∷ whole.0) (sym named) in
    let text = line-parts g w r (line, reads) in
    record {
      of_line = (line, reads);
      one_line = subst HasNoFeed (sym named) (fields-all 9 (λ b. b ≢ 10) line (All-weaker (λ b. b ≢ 10) (λ b. is_separator 9 b ≡ false → b ≢ 10) (λ b other _. other) line plain) 0);
      unread = ap is_skipped_line text.text_is ∙ unread-same (sequence_name g r.seq) text.rest whole.0 ∙ ap is_skipped_line (sym line_is) ∙ unread;
    }

-- what is known of a file: its records can be rows of a file of its width, and aren't more than the limit
record IsKnown (g : Sequences) (limit : ℕ) (d : Draft) : Type 0 where
  fit : MatchOption d.width (d.records ≡ []) (λ w. (3 ≤ w) × (w ≤ 6) × (0 < length d.records) × All (IsBedRow g w) d.records)
  few : length d.records ≤ limit

module _ (g : Sequences) (limit : ℕ) where
  known-row : (d : Draft) (line : List ℕ) (w : ℕ) (r : RecordValue) → IsKnown g limit d → w ≡ width_at d line → 3 ≤ w → w ≤ 6 → length d.records < limit → IsBedRow g w r
      → IsKnown g limit (record { width = Some w; records = d.records ++ r ∷ [] })
  known-row d line w r known is low high room new = record {
    fit = (low, high, omega (arith, length-append d.records (r ∷ [])), All-push (IsBedRow g w) d.records r (old d.width known.fit is) new);
    few = omega (arith, length-append d.records (r ∷ []));
  }
    where
      old : (o : Option ℕ) → MatchOption o (d.records ≡ []) (λ w. (3 ≤ w) × (w ≤ 6) × (0 < length d.records) × All (IsBedRow g w) d.records) → w ≡ unwrap_or o (length (columns line)) → All (IsBedRow g w) d.records
      old None none same = subst (λ (l : List RecordValue). All (IsBedRow g w) l) (sym none) (All-nil (IsBedRow g w))
      old (Some k) some same = subst (λ (n : ℕ). All (IsBedRow g n) d.records) (sym same) some.3

  known-line : (d e : Draft) (line : List ℕ) → HasNoFeed line → IsKnown g limit d → after_record g limit d line ≡ Ok e → IsKnown g limit e
  known-line d e line plain known is = by (is_skipped_line line) refl (is_width (width_at d line)) refl (read g (width_at d line) line) refl (nat_le limit (length d.records)) refl
    where
      same : (x : Draft) → after_record g limit d line ≡ Ok x → x ≡ e
      same x was = same-ok x e (sym was ∙ is)

      wide : is_width (width_at d line) ≡ true → (3 ≤ width_at d line) × (width_at d line ≤ 6)
      wide fits = let both = and_parts (nat_le 3 (width_at d line)) (nat_le (width_at d line) 6) fits in (leb-true 3 (width_at d line) both.0, leb-true (width_at d line) 6 both.1)

      taken : (x : Result Draft LoadCause) → is_skipped_line line ≡ false → is_width (width_at d line) ≡ true → with_row limit (width_at d line) d.records (read g (width_at d line) line) ≡ x → after_record g limit d line ≡ x
      taken x unread fits gives = row-taken g limit d line (width_at d line) x unread refl (wide fits).0 (wide fits).1 gives

      by : (t : Bool) → is_skipped_line line ≡ t → (u : Bool) → is_width (width_at d line) ≡ u → (x : Result RecordValue Fault) → read g (width_at d line) line ≡ x → (v : Bool) → nat_le limit (length d.records) ≡ v → IsKnown g limit e
      by true unread u fits x reads v full = subst (IsKnown g limit) (same d (row-unread g limit d line unread)) known
      by false unread false fits x reads v full = absurd (ok-err e cause.Columns (sym is ∙ row-columns g limit d line unread fits))
      by false unread true fits (Err f) reads v full = absurd (ok-err e (cause.Record f) (sym is ∙ taken (Err (cause.Record f)) unread fits (ap (with_row limit (width_at d line) d.records) reads)))
      by false unread true fits (Ok r) reads true full = absurd (ok-err e cause.TooMany (sym is ∙ taken (Err cause.TooMany) unread fits (ap (with_row limit (width_at d line) d.records) reads ∙ cond-true _ _ _ full)))
      by false unread true fits (Ok r) reads false full =
          let w : ℕ = width_at d line in
          subst (IsKnown g limit) (same (record { width = Some w; records = d.records ++ r ∷ [] }) (taken (Ok (record { width = Some w; records = d.records ++ r ∷ [] })) unread fits (ap (with_row limit (width_at d line) d.records) reads ∙ cond-false _ _ _ full)))
          (known-row d line w r known refl (wide fits).0 (wide fits).1 (leb-false limit (length d.records) full) (line-row g w line r (wide fits).0 plain unread reads))

  known-lines : (n : ℕ) (d e : Draft) (ls : List (List ℕ)) → All HasNoFeed ls → IsKnown g limit d → after_records g limit n d ls ≡ Ok e → IsKnown g limit e
  known-lines n d e [] plain known is = subst (IsKnown g limit) (same-ok d e is) known
  known-lines n d e (line ∷ ls) plain known is = by (after_record g limit d line) refl (λ more. known-lines (n + 1) more e ls (All-tail HasNoFeed line ls plain))
    where
      by : (x : Result Draft LoadCause) → after_record g limit d line ≡ x → ((more : Draft) → IsKnown g limit more → after_records g limit (n + 1) more ls ≡ Ok e → IsKnown g limit e) → IsKnown g limit e
      by (Ok more) was rest = rest more (known-line d more line (All-head HasNoFeed line ls plain) known was) (sym (step g limit n d line ls (Ok more) was) ∙ is)
      by (Err c) was rest = absurd (ok-err e (record { line = n; cause = c }) (sym is ∙ step g limit n d line ls (Err c) was))

-- the records of a file in order, printed and read again, are the same records
pub bed-again : (g : Sequences) (empty limit : ℕ) (text : List ℕ) (b : Bed) → bed_of g empty limit text ≡ Ok b
    → bed_of g empty limit (records_text g (ordered b.records)) ≡ Ok (record { width = b.width; records = ordered b.records })
bed-again g empty limit text b is = by (after_records g limit 1 (record { width = None; records = [] }) (lines text)) refl
  where
    again : (o : Option ℕ) (records : List RecordValue) → MatchOption o (records ≡ []) (λ w. (3 ≤ w) × (w ≤ 6) × (0 < length records) × All (IsBedRow g w) records) → length records ≤ limit
        → bed_of g empty limit (records_text g (ordered records)) ≡ Ok (record { width = unwrap_or o empty; records = ordered records })
    again None records none few =
        subst (λ (l : List RecordValue). bed_of g empty limit (records_text g (ordered l)) ≡ Ok (record { width = empty; records = ordered l })) (sym none) refl
    again (Some w) records some few =
        let size : length (ordered records) ≡ length records = length-all_added record_cmp records [] ∙ omega arith in
        file-again g limit w some.0 some.1 empty (ordered records) (ordered-all (IsBedRow g w) records some.3) (omega (arith, some.2)) (omega arith)

    by : (x : Result Draft LoadFault) → after_records g limit 1 (record { width = None; records = [] }) (lines text) ≡ x → bed_of g empty limit (records_text g (ordered b.records)) ≡ Ok (record { width = b.width; records = ordered b.records })
    by (Err f) was = absurd (ok-err b f (sym is ∙ ap (finished empty) was))
    by (Ok d) was =
        let known : IsKnown g limit d = known-lines g limit 1 (record { width = None; records = [] }) d (lines text) (lines-feed text) (record { fit = refl; few = omega arith }) was in
        let same : record { width = unwrap_or d.width empty; records = d.records } ≡ b = same-ok (record { width = unwrap_or d.width empty; records = d.records }) b (sym (ap (finished empty) was) ∙ is) in
        subst (λ (c : Bed). bed_of g empty limit (records_text g (ordered c.records)) ≡ Ok (record { width = c.width; records = ordered c.records })) same
        (again d.width d.records known.fit known.few)
