-- The rest of a sound record has no line feed.
use Rattle.std.proofs.Common.{◌≡◌, ◌≢◌, ℕ, zero, suc, ◌-◌, ◌==◌, ◌||◌, ◌<◌, ◌≤◌, nat_le, Bool, true, false, List, [], ◌∷◌, ◌++◌, Option, None, Some, codes, length, take, refl, sym, ap, subst, ◌∙◌, arith}
use Rattle.std.specs.Prelude.{IsSome}
use Rattle.std.specs.List.{flat_map, list_any}
use Rattle.std.proofs.lemmas.Bool.{false≢true, leb-false, leb-true, or_parts}
use Rattle.std.proofs.lemmas.List.Elements.{All-nil, All-cons, All-tail, All-append}
use Rattle.iv_lines.specs.Lines.{HasNoFeed}
use Rattle.iv_lines.specs.Read.{AreSoundColumns, bad_text}
use Rattle.iv_lines.specs.RecordText.{joined_record, rest_text, strand_text}
use Rattle.iv_lines.specs.RecordValue.{RecordValue}
use Rattle.iv_lines.specs.declared.record_ref.Strand.{Strand}
use Rattle.iv_lines.specs.declared.record_ref.Strand.TheVariants.{Plus, Minus, Dot}

-- the byte is one that a name or a score may not hold
abbrev is_bad : ℕ → Bool
is_bad b = b == 13 || b == 10 || b == 0

plain-bytes : (bs : List ℕ) → list_any is_bad bs ≡ false → HasNoFeed bs
plain-bytes [] none = All-nil (λ (b : ℕ). b ≢ 10)
plain-bytes (b ∷ bs) none =
    let parts = or_parts (is_bad b) (list_any is_bad bs) none in
    All-cons (λ (x : ℕ). x ≢ 10) b bs (λ e. false≢true (sym parts.0 ∙ ap is_bad e)) (plain-bytes bs parts.1)

-- a good name or score has none
plain-text : (bs : List ℕ) → bad_text bs ≡ false → HasNoFeed bs
plain-text bs good = plain-bytes bs (or_parts (length bs == 0) (list_any is_bad bs) good).1

plain-byte : (b : ℕ) → b ≢ 10 → HasNoFeed (b ∷ [])
plain-byte b other = All-cons (λ (x : ℕ). x ≢ 10) b [] other (All-nil (λ (x : ℕ). x ≢ 10))

-- nor has a strand
plain-strand : (s : Option Strand) → HasNoFeed (strand_text s)
plain-strand None = All-nil (λ (b : ℕ). b ≢ 10)
plain-strand (Some Plus) = plain-byte 43 (λ e. absurd (omega (arith, e)))
plain-strand (Some Minus) = plain-byte 45 (λ e. absurd (omega (arith, e)))
plain-strand (Some Dot) = plain-byte 46 (λ e. absurd (omega (arith, e)))

-- nor has one more column with a TAB in front of it
plain-column : (column more : List ℕ) → HasNoFeed column → HasNoFeed more → HasNoFeed ((codes "\t" ++ column) ++ more)
plain-column column more here there =
    All-append (λ (b : ℕ). b ≢ 10) (codes "\t" ++ column) more (All-cons (λ (b : ℕ). b ≢ 10) 9 column (λ e. absurd (omega (arith, e))) here) there

-- nor have the first of no columns
plain-none : (n : ℕ) → HasNoFeed (flat_map (λ column. codes "\t" ++ column) (take n []))
plain-none zero = All-nil (λ (b : ℕ). b ≢ 10)
plain-none (suc n) = All-nil (λ (b : ℕ). b ≢ 10)

-- nor have the first of three
plain-columns : (n : ℕ) (name score strand : List ℕ) → (1 ≤ n → HasNoFeed name) → (2 ≤ n → HasNoFeed score) → HasNoFeed strand
    → HasNoFeed (flat_map (λ column. codes "\t" ++ column) (take n (name ∷ score ∷ strand ∷ [])))
plain-columns zero name score strand first second third = All-nil (λ (b : ℕ). b ≢ 10)
plain-columns (suc zero) name score strand first second third = plain-column name [] (first (omega arith)) (plain-none zero)
plain-columns (suc (suc zero)) name score strand first second third =
    plain-column name _ (first (omega arith)) (plain-column score [] (second (omega arith)) (plain-none zero))
plain-columns (suc (suc (suc n))) name score strand first second third =
    plain-column name _ (first (omega arith)) (plain-column score _ (second (omega arith)) (plain-column strand _ third (plain-none n)))

-- so the rest of a sound record has none
pub plain-rest : (r : RecordValue) (rest : List ℕ) → AreSoundColumns r.width r.name r.score r.strand → codes "\t" ++ rest ≡ rest_text r → HasNoFeed rest
plain-rest r rest sound is =
    All-tail (λ (b : ℕ). b ≢ 10) 9 rest
    (subst HasNoFeed (sym is)
    (plain-columns (r.width - 3) r.name r.score (strand_text r.strand)
    (λ wide. plain-text r.name (sound.name_good (omega arith)))
    (λ wide. plain-text r.score (sound.score_good (omega arith)))
    (plain-strand r.strand)))

-- nor has that of a line whose name, score and strand are good
pub plain-cells : (w : ℕ) (rest : List ℕ) → (w < 4 → rest ≡ []) → (4 ≤ w → codes "\t" ++ rest ≡ rest_text (joined_record 0 0 0 rest w))
    → (4 ≤ w → bad_text (joined_record 0 0 0 rest w).name ≡ false) → (5 ≤ w → bad_text (joined_record 0 0 0 rest w).score ≡ false) → (6 ≤ w → IsSome (joined_record 0 0 0 rest w).strand) → HasNoFeed rest
plain-cells w rest none whole name score strand = by (nat_le 4 w) refl
  where
    by : (b : Bool) → nat_le 4 w ≡ b → HasNoFeed rest
    by true wide = plain-rest (joined_record 0 0 0 rest w) rest (record { name_good = name; score_good = score; strand_good = strand }) (whole (leb-true 4 w wide))
    by false low = subst HasNoFeed (sym (none (leb-false 4 w low))) (All-nil (λ (b : ℕ). b ≢ 10))
