-- The rows of the gaps are those of the complement.
use Rattle.std.proofs.Common.{◌≡◌, ◌≢◌, ℕ, zero, suc, ◌+◌, ◌-◌, ◌<◌, ◌≤◌, ◌++◌, ◌==◌, ◌&&◌, nat_le, nat_lt, Bool, true, false, not, List, [], ◌∷◌, map, filter, length, Option, Some, None, refl, sym, ◌∙◌, ap, ap₂, subst, inl, inr, arith, All, eqb-true, eq-eqb, le-ltb, leb-true, ltb-true, append-nil}
use Rattle.std.specs.List.{flat_map, take_while, range_with_len, list_any}
use Rattle.std.specs.Option.{option_map}
use Rattle.std.proofs.lemmas.Bool.{and_from, and_left, and_parts, cases_eq, false_from_ne_true, or_right, cond-true, cond-false, lt-ltb, le-leb, ne_eqb}
use Rattle.std.proofs.lemmas.List.Concat.{flat_map-append}
use Rattle.std.proofs.lemmas.List.Sums.{length-filter}
use Rattle.iv_lines.specs.Genome.{Sequences, seq_count, sequence_name, sequence_length}
use Rattle.iv_lines.specs.Named.{names_of}
use Rattle.iv_lines.specs.Read.{Fits, IsOnGenome}
use Rattle.iv_lines.specs.RecordValue.{RecordValue}
use Rattle.iv_cover.specs.Blocks.{block_stop, block_at, blocks_below, start_of, stop_of}
use Rattle.iv_lines.specs.CoveredPositions.{covers}
use Rattle.iv_cover.specs.Depth.{depth}
use Rattle.iv_cover.specs.Runs.{empty_runs}
use Rattle.iv_lines.specs.declared.interval.Interval.{Interval}
use Rattle.iv_cover.proofs.Cover.{Free, Covered, some_start, block_at_start, block_at-some}
use Rattle.iv_cover.proofs.Groups.{mem-left, mem-right, mem-append}
use Rattle.iv_cover.proofs.Positions.{values, values-none, values-some, values-agree, values-none_from}
use Rattle.iv_lines.proofs.ListLemmas.{Mem, mem-filter_from, all-mem, filter-none, any-found, any-none, mem-place}
use Rattle.iv_blocks.specs.Inside.BlockCursor.{interval_of, gap_between, gaps_between, starts_until, drop_while, BeginsElse, sequence_text, texts}
use Rattle.iv_blocks.specs.ComplementRows.{gap_row, gap_rows, complement_text}
use Rattle.iv_blocks.specs.Inside.Texts.{is_shown}
use Rattle.iv_blocks.specs.Inside.Groups.{is_in_group}
use Rattle.iv_blocks.specs.Groups.{group, sides}
use Rattle.iv_blocks.specs.KeptBlocks.{Entries, AreBlocksOf}
use Rattle.iv_blocks.specs.MergeRows.{side_blocks}
use Rattle.iv_blocks.specs.declared.options.BlockOptions.{BlockOptions}
use Rattle.iv_blocks.proofs.BlockCursorLemmas.{take-all, drop-all, begins-else}
use Rattle.iv_blocks.proofs.GapLemmas.{all_gaps-are}
use Rattle.iv_blocks.proofs.KeptLemmas.{group-in, entry_of, entries-are, flat_map-agree, map-filter_map}
use Rattle.iv_blocks.proofs.UnstrandedLemmas.{all-lie, map-flat_map}

-- ---- one block after another

-- the rows up to the next block, and the others
pub gaps-next : (name : List ℕ) (shown : Bool) (start length : ℕ) (blocks after : List Interval) (b : Interval) → blocks ≡ b ∷ after
    → flat_map (gap_row name) (gaps_between shown start length blocks)
    ≡ flat_map (gap_row name) (gap_between start b.start) ++ flat_map (gap_row name) (gaps_between true b.stop length after)
gaps-next name shown start length blocks after b first = rw first (flat_map-append (gap_row name) (gap_between start b.start) (gaps_between true b.stop length after))

-- the row past the last block
pub gaps-last : (name : List ℕ) (shown : Bool) (start length : ℕ) (blocks : List Interval) → shown ≡ true → blocks ≡ []
    → flat_map (gap_row name) (gaps_between shown start length blocks) ≡ flat_map (gap_row name) (gap_between start length)
gaps-last name shown start length blocks is none = rw (is, none) refl

-- ---- one sequence after another

-- each block is on its sequence
abbrev AreOwn : Sequences → (ℕ → List Interval) → Type 0
AreOwn g own = (s : ℕ) (b : Interval) → Mem b (own s) → (b.seq ≡ s) × (b.start ≤ sequence_length g s)

later : (g : Sequences) (own : ℕ → List Interval) → AreOwn g own → (seq n low : ℕ) → low < seq → (b : Interval) → Mem b (flat_map own (range_with_len seq n)) → starts_until low (sequence_length g low) b ≡ false
later g own are seq zero low high b m = absurd m
later g own are seq (suc n) low high b m = elim (mem-append (own seq) (flat_map own (range_with_len (seq + 1) n)) b m) [
  | inl here ↦
      let at = (are seq b here).0 in
      rw (le-ltb b.seq low (omega (arith, at)), ne_eqb b.seq low (λ is. absurd (omega (arith, is, at)))) refl
  | inr rest ↦ later g own are (seq + 1) n low (omega arith) b rest
]

-- the sequences' own blocks give their rows
pub texts-are : (wanted : Bool) (g : Sequences) (own : ℕ → List Interval) → AreOwn g own → (n seq : ℕ)
    → texts wanted g seq n (flat_map own (range_with_len seq n)) ≡ flat_map (λ s. sequence_text wanted g s (own s)) (range_with_len seq n)
unfolding texts
texts-are wanted g own are zero seq = refl
texts-are wanted g own are (suc n) seq =
    let test : Interval → Bool = starts_until seq (sequence_length g seq) in
    let rest : List Interval = flat_map own (range_with_len (seq + 1) n) in
    let all : (b : Interval) → Mem b (own seq) → test b ≡ true = λ b m.
    let at = are seq b m in
    let same : (b.seq == seq) ≡ true = eq-eqb b.seq seq at.0 in
    or_right _ _ (and_from _ _ same (le-leb b.start (sequence_length g seq) at.1)) in
    let else : BeginsElse test rest = begins-else test rest (later g own are (seq + 1) n seq (omega arith)) in
    ap₂ (λ (l m : List Interval). sequence_text wanted g seq l ++ texts wanted g (seq + 1) n m) (take-all test (own seq) rest all else) (drop-all test (own seq) rest all else)
    ∙ ap (λ (l : List ℕ). sequence_text wanted g seq (own seq) ++ l) (texts-are wanted g own are n (seq + 1))

-- the rows of the next sequence, and those of the others
pub texts-next : (wanted : Bool) (g : Sequences) (seq length : ℕ) (name : List ℕ) (blocks after : List Interval) → seq < seq_count g
    → name ≡ sequence_name g seq → length ≡ sequence_length g seq → after ≡ drop_while (starts_until seq length) blocks
    → texts wanted g seq (seq_count g - seq) blocks
    ≡ flat_map (gap_row name) (gaps_between wanted 0 length (take_while (starts_until seq length) blocks)) ++ texts wanted g (seq + 1) (seq_count g - (seq + 1)) after
unfolding texts
texts-next wanted g seq length name blocks after low named long past =
    let e : seq_count g - seq ≡ suc (seq_count g - (seq + 1)) = omega arith in
    rw (past, named, long, e) refl

pub texts-none : (wanted : Bool) (g : Sequences) (seq : ℕ) (blocks : List Interval) → seq_count g ≤ seq → texts wanted g seq (seq_count g - seq) blocks ≡ []
unfolding texts
texts-none wanted g seq blocks high = let e : seq_count g - seq ≡ zero = omega arith in rw e refl

-- ---- values at positions

pub mem-values : {Y : Type 0} (f : ℕ → Option Y) (n : ℕ) (y : Y) → Mem y (values f n) → (x : ℕ) × (x < n) × (f x ≡ Some y)
mem-values f zero y m = absurd m
mem-values {Y} f (suc n) y m = go (λ before. mem-values f n y before) (f n) refl
  where
    go : (Mem y (values f n) → (x : ℕ) × (x < n) × (f x ≡ Some y)) → (o : Option Y) → f n ≡ o → (x : ℕ) × (x < suc n) × (f x ≡ Some y)
    go rest None is = let found = rest (subst (λ l. Mem y l) (values-none f n is) m) in (found.0, omega (arith, found.1), found.2)
    go rest (Some z) is = elim (mem-append (values f n) (z ∷ []) y (subst (λ l. Mem y l) (values-some f n z is) m)) [
      | inl before ↦ let found = rest before in (found.0, omega (arith, found.1), found.2)
      | inr last ↦ elim last [ inl at ↦ (n, omega arith, is ∙ ap Some at) | inr never ↦ absurd never ]
    ]

value-mem : {Y : Type 0} (f : ℕ → Option Y) (n x : ℕ) (y : Y) → x < n → f x ≡ Some y → Mem y (values f n)
value-mem f zero x y low is = absurd (omega arith)
value-mem {Y} f (suc n) x y low is = go (λ before. value-mem f n x y before is) (f n) refl
  where
    go : (x < n → Mem y (values f n)) → (o : Option Y) → f n ≡ o → Mem y (values f (suc n))
    go rest None e = elim (cases_eq x n) [
      | inl at ↦ let never : Some y ≡ None = sym is ∙ ap f at ∙ e in cc
      | inr ne ↦ subst (λ l. Mem y l) (sym (values-none f n e)) (rest (omega arith))
    ]
    go rest (Some z) e = subst (λ l. Mem y l) (sym (values-some f n z e)) (elim (cases_eq x n) [
      | inl at ↦ let same : Some z ≡ Some y = sym e ∙ ap f (sym at) ∙ is in let alike : z ≡ y = cc in mem-right (values f n) (z ∷ []) y (inl alike)
      | inr ne ↦ mem-left (values f n) (z ∷ []) y (rest (omega arith))
    ])

-- ---- the depth

depth-counts : (records : List RecordValue) (s p : ℕ) → depth records s p ≡ length (filter (covers s p) records)
depth-counts records s p = sym (length-filter (covers s p) records)

pub in-group : (s : ℕ) (records : List RecordValue) (q : RecordValue) → Mem q records → q.seq ≡ s → Mem q (group false s false records)
in-group s records q m seq = mem-filter_from (is_in_group false s false) records q m (and_from _ _ (eq-eqb q.seq s seq) refl)

-- a covered position has a depth
pub depth-some : (records : List RecordValue) (s p : ℕ) → Covered start_of stop_of 0 (group false s false records) (suc p) → depth records s p ≢ 0
depth-some records s p c none =
    let both = group-in false s false records c.0 c.1 in
    let covers_it : covers s p c.0 ≡ true = and_from _ _ (eq-eqb c.0.seq s both.1) (and_from _ _ (le-leb c.0.start p (omega (arith, c.2))) (lt-ltb p c.0.stop (omega (arith, c.3)))) in
    let at = mem-place (filter (covers s p) records) c.0 c.0 (mem-filter_from (covers s p) records c.0 both.0 covers_it) in
    omega (arith, depth-counts records s p, none, at.1)

-- and a free one has none
pub depth-none : (records : List RecordValue) (s p : ℕ) → Free start_of stop_of 0 (group false s false records) (suc p) → depth records s p ≡ 0
depth-none records s p free =
    depth-counts records s p
    ∙ ap (λ (l : List RecordValue). length l) (filter-none (covers s p) records (λ q m. false_from_ne_true _ (λ e.
    let first = and_parts (q.seq == s) (nat_le q.start p && nat_lt p q.stop) e in
    let rest = and_parts (nat_le q.start p) (nat_lt p q.stop) first.1 in
    omega (arith, free q (in-group s records q m (eqb-true _ _ first.0)) (omega (arith, leb-true _ _ rest.0)), ltb-true _ _ rest.1))))

-- ---- the blocks of a sequence

-- where a block is that starts at b.0 and stops at b.1.0
abbrev pub place_of : ℕ → ℕ → Option (ℕ × List RecordValue) → Option Interval
place_of s x at = option_map (λ (b : ℕ × List RecordValue). record { seq = s; start = x; stop = b.0 }) at

place-of : (o : BlockOptions) (g : Sequences) (s x : ℕ) (at : Option (ℕ × List RecordValue))
    → option_map interval_of (option_map (entry_of o g s false) (option_map (λ b. (x, b)) at)) ≡ place_of s x at
place-of o g s x None = refl
place-of o g s x (Some b) = refl

place-is_placed : (s x : ℕ) (at : Option (ℕ × List RecordValue)) (b : Interval) → place_of s x at ≡ Some b → (b.seq ≡ s) × (b.start ≡ x)
place-is_placed s x None b is = cc
place-is_placed s x (Some p) b is = (cc, cc)

-- where a block is, the gaps are shown
shown-some : (from to : ℕ) (blocks : List Interval) → blocks ≢ [] → gaps_between false from to blocks ≡ gaps_between true from to blocks
shown-some from to [] some = absurd (some refl)
shown-some from to (b ∷ blocks) some = refl

-- where the block on a sequence is that starts at a position, if there is one
abbrev pub interval_at : List RecordValue → ℕ → ℕ → Option Interval
interval_at records s x = place_of s x (block_at start_of stop_of 0 (group false s false records) x)

-- where the blocks on a sequence are
abbrev pub intervals_on : Sequences → List RecordValue → ℕ → List Interval
intervals_on g records s = values (interval_at records s) (sequence_length g s)

module _ (g : Sequences) (records : List RecordValue) (lie : All (IsOnGenome g) records) where
  are-own : AreOwn g (intervals_on g records)
  are-own s b m =
      let found = mem-values (interval_at records s) (sequence_length g s) b m in
      let is_placed = place-is_placed s found.0 (block_at start_of stop_of 0 (group false s false records) found.0) b found.2 in
      (is_placed.0, omega (arith, is_placed.1, found.1))

  -- the records of a sequence end on it
  pub within : (s : ℕ) (q : RecordValue) → Mem q (group false s false records) → (q.start < q.stop) × (q.stop ≤ sequence_length g s)
  within s q m =
      let both = group-in false s false records q m in
      let is_placed = all-mem (IsOnGenome g) records lie q both.0 in
      (is_placed.some, rw both.1 at is_placed.within.1)

  runs-are : (s : ℕ) → gaps_between true 0 (sequence_length g s) (intervals_on g records s) ≡ empty_runs (depth records s) 0 (sequence_length g s)
  runs-are s = all_gaps-are (group false s false records) (depth records s) s (sequence_length g s)
      (λ q m. (within s q m).0) (λ q m. (within s q m).1) (depth-some records s) (depth-none records s)

  -- a sequence with a record has a block
  own-some : (s : ℕ) → list_any (λ r. r.seq == s) records ≡ true → intervals_on g records s ≢ []
  own-some s e none =
      let found = any-found (λ (r : RecordValue). r.seq == s) records e in
      let m = in-group s records found.0 found.1 (eqb-true _ _ found.2) in
      let first = some_start start_of stop_of 0 (group false s false records) found.0.start found.0 m (omega arith) in
      let fits = within s found.0 m in
      let stop : ℕ = block_stop start_of stop_of 0 (group false s false records) first.0 in
      let block = block_at-some start_of stop_of 0 (group false s false records) first.0 stop (λ q m. (within s q m).0)
      (block_at_start start_of stop_of 0 (group false s false records) first.0 (λ q m. (within s q m).0) first.2) in
      let b : Interval = record { seq = s; start = first.0; stop = stop } in
      let there = value-mem (interval_at records s) (sequence_length g s) first.0 b (omega (arith, first.1, fits)) (ap (place_of s first.0) block) in
      subst (λ (l : List Interval). Mem b l) none there

  -- and one without has none
  own-none : (s : ℕ) → list_any (λ r. r.seq == s) records ≡ false → intervals_on g records s ≡ []
  own-none s e =
      let empty : group false s false records ≡ [] = filter-none (is_in_group false s false) records (λ q m. and_left _ _ (any-none (λ (r : RecordValue). r.seq == s) records e q m)) in
      values-none_from (interval_at records s) (sequence_length g s) 0 (omega arith)
      (λ x from below. ap (λ (l : List RecordValue). place_of s x (block_at start_of stop_of 0 l x)) empty)

  sequence-is : (limited : Bool) (s : ℕ) → sequence_text (not limited) g s (intervals_on g records s) ≡ gap_rows limited g records s
  sequence-is false s = ap (flat_map (gap_row (sequence_name g s))) (runs-are s)
  sequence-is true s = go (list_any (λ r. r.seq == s) records) refl
    where
      go : (b : Bool) → list_any (λ r. r.seq == s) records ≡ b → sequence_text false g s (intervals_on g records s) ≡ gap_rows true g records s
      go true e = ap (flat_map (gap_row (sequence_name g s))) (shown-some 0 (sequence_length g s) (intervals_on g records s) (own-some s e) ∙ runs-are s)
          ∙ sym (ap (flat_map (gap_row (sequence_name g s))) (cond-true (is_shown true records s) (empty_runs (depth records s) 0 (sequence_length g s)) [] e))
      go false e = ap (sequence_text false g s) (own-none s e)
          ∙ sym (ap (flat_map (gap_row (sequence_name g s))) (cond-false (is_shown true records s) (empty_runs (depth records s) 0 (sequence_length g s)) [] e))

  -- the rows of the gaps of all blocks
  pub gaps-of_blocks : (limited : Bool) → texts (not limited) g 0 (seq_count g) (flat_map (intervals_on g records) (range_with_len 0 (seq_count g))) ≡ complement_text limited g records
  gaps-of_blocks limited =
      texts-are (not limited) g (intervals_on g records) are-own (seq_count g) 0
      ∙ flat_map-agree (λ s. sequence_text (not limited) g s (intervals_on g records s)) (gap_rows limited g records) (range_with_len 0 (seq_count g)) (sequence-is limited)

module _ (o : BlockOptions) (g : Sequences) (width : ℕ) (records : List RecordValue) (entries : Entries) (right : AreBlocksOf o (names_of g) records entries) (fit : All (Fits g width) records)
    (distance : o.distance ≡ 0) (together : o.stranded ≡ false) where
  -- where the entries of a sequence are
  abbrev own_entries : ℕ → Entries
  own_entries s = flat_map (λ t. map (entry_of o g s t) (side_blocks o g records s t)) (sides o.stranded)

  own-are : (s : ℕ) → map interval_of (own_entries s) ≡ intervals_on g records s
  own-are s =
      let n : ℕ = sequence_length g s in
      ap₂ (λ (d : ℕ) (apart : Bool). map interval_of (flat_map (λ t. map (entry_of o g s t) (blocks_below start_of stop_of d (group apart s t records) n)) (sides apart))) distance together
      ∙ ap (map interval_of) (append-nil (map (entry_of o g s false) (blocks_below start_of stop_of 0 (group false s false records) n)))
      ∙ ap (map interval_of) (map-filter_map (entry_of o g s false) (λ x. option_map (λ b. (x, b)) (block_at start_of stop_of 0 (group false s false records) x)) (range_with_len 0 n))
      ∙ map-filter_map interval_of (λ x. option_map (entry_of o g s false) (option_map (λ b. (x, b)) (block_at start_of stop_of 0 (group false s false records) x))) (range_with_len 0 n)
      ∙ values-agree (λ x. option_map interval_of (option_map (entry_of o g s false) (option_map (λ b. (x, b)) (block_at start_of stop_of 0 (group false s false records) x)))) (interval_at records s) n
      (λ x below. place-of o g s x (block_at start_of stop_of 0 (group false s false records) x))

  is_placed-all : map interval_of entries ≡ flat_map (intervals_on g records) (range_with_len 0 (seq_count g))
  is_placed-all =
      ap (map interval_of) (entries-are o g width records fit entries right)
      ∙ map-flat_map interval_of own_entries (range_with_len 0 (seq_count g))
      ∙ flat_map-agree (λ s. map interval_of (own_entries s)) (intervals_on g records) (range_with_len 0 (seq_count g)) own-are

  -- the rows of all gaps
  pub gaps-are : (limited : Bool) → texts (not limited) g 0 (seq_count g) (map interval_of entries) ≡ complement_text limited g records
  gaps-are limited = ap (texts (not limited) g 0 (seq_count g)) is_placed-all ∙ gaps-of_blocks g records (all-lie g width records fit) limited
