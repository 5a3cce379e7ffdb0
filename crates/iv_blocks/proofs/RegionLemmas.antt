-- The entries of one group from a key on, and the rows of those that share a position with a region.
use Rattle.std.proofs.Common.{◌≡◌, ◌⊎◌, ℕ, ◌+◌, ◌<◌, ◌≤◌, inl, inr, ◌&&◌, nat_lt, min, Bool, true, false, List, [], ◌∷◌, ◌++◌, filter, map, length, Option, Some, None, refl, sym, ◌∙◌, ap, ap₂, subst, arith, All, lt-ltb, ltb-true, append-nil, length-append}
use Rattle.std.specs.declared.cmp.Ordering.TheVariants.{Less, Greater}
use Rattle.std.specs.Cmp.{Equal-is, ranked, tied_itself}
use Rattle.std.specs.List.{flat_map, take_while}
use Rattle.std.specs.List.Sorted.{IsStrictlySortedBy}
use Rattle.std.specs.BTreeMap.{is_at}
use Rattle.std.specs.Option.{option_map, unwrap_or}
use Rattle.std.specs.Ordering.{nat_cmp, is_eq, is_le, ordering_reverse}
use Rattle.std.proofs.lemmas.Bool.{and_parts, and_from, cases_Bool, cases_lt, cond-true, cond-false, false≢true, false_from_ne_true}
use Rattle.std.proofs.lemmas.List.{length-map}
use Rattle.std.proofs.lemmas.List.Elements.{filter-append}
use Rattle.std.proofs.lemmas.List.Folds.{flat_map-map}
use Rattle.std.proofs.lemmas.Map.Keys.{le_from_is_le}
use Rattle.std.proofs.lemmas.Option.{none-some}
use Rattle.std.proofs.Math.Bool.{and-true}
use Rattle.iv_lines.specs.Genome.{Sequences, sequence_name, sequence_length}
use Rattle.iv_lines.specs.Named.{names_of}
use Rattle.iv_lines.specs.Read.{Fits}
use Rattle.iv_lines.specs.RecordValue.{RecordValue}
use Rattle.iv_lines.proofs.ListLemmas.{Mem, mem-filter, all-mem, filter-agree, filter-none}
use Rattle.iv_ledger.specs.Entries.{IsLedger, value_at}
use Rattle.iv_cover.specs.Blocks.{start_of, stop_of}
use Rattle.iv_cover.proofs.Cover.{Lasting, IsBlock, ends_before}
use Rattle.iv_blocks.specs.Groups.{group, listed, sides}
use Rattle.iv_blocks.specs.Inside.Lookups.{IsLastBlock}
use Rattle.iv_blocks.specs.Inside.Regions.{ReachesFrom}
use Rattle.iv_blocks.specs.KeptBlocks.{Key, Kept, Entries, AreBlocksOf, key_cmp, kept_at, name_of}
use Rattle.iv_blocks.specs.MergeRows.{block_row, side_blocks}
use Rattle.iv_track.specs.Regions.{shares}
use Rattle.iv_blocks.specs.RegionRows.{side_blocks_in, blocks_in, merge_text_in}
use Rattle.iv_blocks.specs.Inside.Texts.{entry_row}
use Rattle.iv_blocks.specs.declared.options.BlockOptions.{BlockOptions}
use Rattle.iv_blocks.proofs.BlockCursorLemmas.{take-first, take-none}
use Rattle.iv_blocks.proofs.ComplementLemmas.{mem-values}
use Rattle.iv_blocks.proofs.EntryLemmas.{from, walked-on, later-keys, side_entries, none-past as no_entry}
use Rattle.iv_blocks.proofs.KeptLemmas.{group-in, side-is, entry_of, none-past}
use Rattle.iv_blocks.proofs.Keys.{keys_total, keys_exact}
use Rattle.iv_blocks.proofs.LookupLemmas.{key_cmp-group, beside-after}
use Rattle.iv_blocks.proofs.RepairLemmas.{shown-is}

-- ---- lists

-- a filter of mapped values
pub filter-mapped : {X Y : Type 0} (p : Y → Bool) (q : X → Bool) (f : X → Y) (xs : List X) → ((x : X) → p (f x) ≡ q x) → filter p (map f xs) ≡ map f (filter q xs)
filter-mapped p q f [] same = refl
filter-mapped p q f (x ∷ xs) same = elim (cases_Bool (q x)) [
  | inl e ↦ cond-true (p (f x)) _ _ (same x ∙ e) ∙ ap (λ l. f x ∷ l) (filter-mapped p q f xs same) ∙ sym (ap (map f) (cond-true (q x) (x ∷ filter q xs) (filter q xs) e))
  | inr e ↦ cond-false (p (f x)) _ _ (same x ∙ e) ∙ filter-mapped p q f xs same ∙ sym (ap (map f) (cond-false (q x) (x ∷ filter q xs) (filter q xs) e))
]

-- ---- entries in order

-- each entry is before those after it
abbrev pub Ascends : Entries → Type 0
Ascends [] = Unit {0}
Ascends (e ∷ es) = ((f : Key × Kept) → Mem f es → key_cmp e.0 f.0 ≡ Less) × Ascends es

pub ascends-all : (es : Entries) → IsLedger key_cmp es → Ascends es
unfolding IsStrictlySortedBy
ascends-all [] sorted = tt
ascends-all (e ∷ es) sorted = (λ f m. later-keys e.0 es sorted.0 f m, ascends-all es sorted.1)

pub ascends-filter : (p : Key × Kept → Bool) (es : Entries) → Ascends es → Ascends (filter p es)
ascends-filter p [] h = tt
ascends-filter p (e ∷ es) h = elim (cases_Bool (p e)) [
  | inl t ↦ subst Ascends (sym (cond-true (p e) (e ∷ filter p es) (filter p es) t)) (λ f m. h.0 f (mem-filter p es f m).0, ascends-filter p es h.1)
  | inr f ↦ subst Ascends (sym (cond-false (p e) (e ∷ filter p es) (filter p es) f)) (ascends-filter p es h.1)
]

-- at the key of an entry is its value
value-of : (es : Entries) (e : Key × Kept) → Ascends es → Mem e es → value_at key_cmp es e.0 ≡ Some e.1
value-of [] e h m = absurd m
value-of (x ∷ es) e h (inl at) =
    let same : is_at (key_cmp e.0) x.0 ≡ true = ap (λ (y : Key × Kept). is_at (key_cmp e.0) y.0) at ∙ ap is_eq (tied_itself keys_total e.0) in
    cond-true (is_at (key_cmp e.0) x.0) _ _ same ∙ ap (λ (y : Key × Kept). Some y.1) at
value-of (x ∷ es) e h (inr m) =
    cond-false (is_at (key_cmp e.0) x.0) _ _ (ap is_eq (keys_total.antisymm e.0 x.0 ∙ ap ordering_reverse (h.0 e m))) ∙ value-of es e h.1 m

module _ (s : ℕ) (t : Bool) where
  -- the entry is of this side of the sequence
  abbrev pub is_of : Key × Kept → Bool
  is_of e = is_at (key_cmp (s, t, e.0.2)) e.0

  of-key : (x : ℕ) (b : Kept) → is_of ((s, t, x), b) ≡ true
  of-key x b = ap is_eq (tied_itself keys_total (s, t, x))

  of-is : (e : Key × Kept) → e.0 ≡ (s, t, e.0.2) → is_of e ≡ true
  of-is e is = ap (λ (k : Key). is_at (key_cmp (s, t, e.0.2)) k) is ∙ ap is_eq (tied_itself keys_total (s, t, e.0.2))

  key-is : (e : Key × Kept) → is_of e ≡ true → e.0 ≡ (s, t, e.0.2)
  key-is e yes_of = sym (keys_exact (s, t, e.0.2) e.0 ((Equal-is (key_cmp (s, t, e.0.2) e.0)).0 yes_of))

module _ (s : ℕ) (t : Bool) (stop : ℕ) where
  -- the entry is of this side, and starts before the region stops
  abbrev pub is_early : Key × Kept → Bool
  is_early e = is_of s t e && nat_lt e.0.2 stop

  early-parts : (e : Key × Kept) → is_early e ≡ true → (e.0 ≡ (s, t, e.0.2)) × (e.0.2 < stop)
  early-parts e yes_early =
      let both = and_parts (is_of s t e) (nat_lt e.0.2 stop) yes_early in
      (key-is s t e both.0, ltb-true _ _ both.1)

  -- if the first entry is past the region, so are all
  past-all : (p : ℕ) (e : Key × Kept) (rest : Entries) → Ascends (e ∷ rest) → is_le (key_cmp (s, t, p) e.0) ≡ true
      → (e.0.0 ≡ s → e.0.1 ≡ t → ⊥) ⊎ ((e.0 ≡ (s, t, e.0.2)) × (stop ≤ e.0.2)) → (f : Key × Kept) → Mem f (e ∷ rest) → is_early f ≡ true → ⊥
  past-all p e rest h after (inl beside) f (inl at) yes_early =
      let own = (early-parts f yes_early).0 in
      let key : e.0 ≡ (s, t, f.0.2) = ap (λ (y : Key × Kept). y.0) at ∙ own in
      beside (ap (λ (k : Key). k.0) key) (ap (λ (k : Key). k.1) key)
  past-all p e rest h after (inl beside) f (inr m) yes_early =
      let own = (early-parts f yes_early).0 in
      let before : key_cmp f.0 e.0 ≡ Less = ap (λ (k : Key). key_cmp k e.0) own ∙ beside-after s t p f.0.2 e.0 beside after in
      let never : Less ≡ Greater = sym (h.0 f m) ∙ keys_total.antisymm e.0 f.0 ∙ ap ordering_reverse before in
      cc
  past-all p e rest h after (inr late) f (inl at) yes_early =
      omega (arith, ap (λ (y : Key × Kept). y.0.2) at, (early-parts f yes_early).1, late.1)
  past-all p e rest h after (inr late) f (inr m) yes_early =
      let own = early-parts f yes_early in
      let less : nat_cmp e.0.2 f.0.2 ≡ Less
      = sym (key_cmp-group s t e.0.2 f.0.2) ∙ sym (ap₂ (λ (j k : Key). key_cmp j k) late.0 own.0) ∙ h.0 f m in
      omega (arith, ranked e.0.2 f.0.2 Less (sym less), own.1, late.1)

  -- the entry isn't of this side, or it starts at the region's stop or later
  is-past : (e : Key × Kept) → is_early e ≡ false → (e.0.0 ≡ s → e.0.1 ≡ t → ⊥) ⊎ ((e.0 ≡ (s, t, e.0.2)) × (stop ≤ e.0.2))
  is-past ((x, y, z), b) fails = elim (cases_Bool (is_of s t ((x, y, z), b))) [
    | inl own ↦ elim (cases_lt z stop) [
      | inl low ↦ absurd (false≢true (sym fails ∙ and_from _ _ own (lt-ltb _ _ low)))
      | inr high ↦ inr (key-is s t ((x, y, z), b) own, high)
    ]
    | inr other ↦ inl (λ at on. false≢true (sym other ∙ of-is s t ((x, y, z), b) (ap₂ (λ (q : ℕ) (m : Bool). (q, m, z)) at on)))
  ]

  -- so a walk in order that stops at the first other entry has all of these
  pub take-early : (p : ℕ) (walk : Entries) → Ascends walk → ((f : Key × Kept) → Mem f walk → is_le (key_cmp (s, t, p) f.0) ≡ true) → take_while is_early walk ≡ filter is_early walk
  take-early p [] h after = refl
  take-early p (e ∷ rest) h after = elim (cases_Bool (is_early e)) [
    | inl goes ↦
        take-first is_early (e ∷ rest) rest e refl goes
        ∙ ap (λ (l : Entries). e ∷ l) (take-early p rest h.1 (λ f m. after f (inr m)))
        ∙ sym (cond-true (is_early e) (e ∷ filter is_early rest) (filter is_early rest) goes)
    | inr fails ↦
        take-none is_early (e ∷ rest) fails
        ∙ sym (filter-none is_early (e ∷ rest) (λ f m. false_from_ne_true _ (past-all p e rest h (after e (inl refl)) (is-past e fails) f m)))
  ]

module _ (s : ℕ) (t : Bool) (start stop : ℕ) where
  -- the entry is of this side, and shares a position with the region
  abbrev pub is_in : Key × Kept → Bool
  is_in e = is_of s t e && shares start stop e.0.2 e.1.stop

  in-parts : (e : Key × Kept) → is_in e ≡ true → (e.0 ≡ (s, t, e.0.2)) × (e.0.2 < stop) × (start < e.1.stop)
  in-parts e yes_in =
      let both = and_parts (is_of s t e) (shares start stop e.0.2 e.1.stop) yes_in in
      let ends = and_parts (nat_lt e.0.2 stop) (nat_lt start e.1.stop) both.1 in
      (key-is s t e both.0, ltb-true _ _ ends.0, ltb-true _ _ ends.1)

  -- of an entry that stops past the region's start, both tests say the same
  in-is_early : (e : Key × Kept) → (e.0 ≡ (s, t, e.0.2) → start < e.1.stop) → is_early s t stop e ≡ is_in e
  in-is_early e past = elim (cases_Bool (is_of s t e)) [
    | inl own ↦ ap (λ (b : Bool). is_of s t e && b) (sym (ap (λ (c : Bool). nat_lt e.0.2 stop && c) (lt-ltb _ _ (past (key-is s t e own))) ∙ and-true (nat_lt e.0.2 stop)))
    | inr other ↦ ap (λ (b : Bool). b && nat_lt e.0.2 stop) other ∙ sym (ap (λ (b : Bool). b && shares start stop e.0.2 e.1.stop) other)
  ]

module _ (o : BlockOptions) (g : Sequences) (width : ℕ) (records : List RecordValue) (entries : Entries) (right : AreBlocksOf o (names_of g) records entries) (fit : All (Fits g width) records) (s : ℕ) (t : Bool) where
  -- what is kept of the block of this side that starts at a position
  abbrev look : ℕ → Option Kept
  look x = value_at key_cmp entries (s, t, x)

  pub lasting : Lasting start_of stop_of o.distance (group o.stranded s t records)
  lasting q m = (all-mem (Fits g width) records fit q (group-in o.stranded s t records q m).0).is_placed.some

  pub block-is : (x : ℕ) (b : Kept) → look x ≡ Some b → IsBlock start_of stop_of o.distance (group o.stranded s t records) x b.stop
  block-is x b e = shown-is o.distance (name_of (names_of g) s) (listed o.summaries) (group o.stranded s t records) x b lasting (sym (right.blocks (s, t, x)) ∙ e)

  pub starts-low : (x : ℕ) (b : Kept) → look x ≡ Some b → x < sequence_length g s
  starts-low x b e = elim (cases_lt x (sequence_length g s)) [
    | inl low ↦ low
    | inr high ↦ absurd (none-some b (sym (none-past o g width records fit s t x high) ∙ sym (right.blocks (s, t, x)) ∙ e))
  ]

  -- ---- where a walk begins

  module _ (position last : ℕ) (is : last ≡ min (sequence_length g s) position) where
    after-last : (x : ℕ) (b : Kept) → last ≤ x → look x ≡ Some b → position < b.stop
    after-last x b high e = omega (arith, is, starts-low x b e, (block-is x b e).long, high)

    pub reaches-none : ((x : ℕ) → x ≤ last → look x ≡ None) → ReachesFrom look position last
    reaches-none none = record {
      before = λ x b low e. absurd (none-some b (sym (none x (omega arith)) ∙ e));
      after = after-last;
    }

    -- a block that starts before the last one ends before it
    early : (found : ℕ × ℕ) → IsLastBlock look last found → (x : ℕ) (b : Kept) → x < found.0 → look x ≡ Some b → b.stop ≤ position
    early found entry x b low e = omega (
      arith,
      is,
      entry.within,
      ends_before start_of stop_of o.distance (group o.stranded s t records) found.0 x b.stop (block-is found.0 _ entry.is).free (block-is x b e) low,
    )

    same-stop : (found : ℕ × ℕ) → IsLastBlock look last found → (x : ℕ) (b : Kept) → x ≡ found.0 → look x ≡ Some b → b.stop ≡ found.1
    same-stop found entry x b at e =
        ap (λ (v : Option Kept). unwrap_or (option_map (λ (k : Kept). k.stop) v) 0) (sym e ∙ ap look at ∙ entry.is)

    -- the last block, if it stops past the position
    pub reaches-some : (found : ℕ × ℕ) → IsLastBlock look last found → position < found.1 → ReachesFrom look position found.0
    reaches-some found entry past = record {
      before = early found entry;
      after = λ x b high e. elim (cases_lt last x) [
        | inl late ↦ after-last x b (omega arith) e
        | inr until ↦ elim (cases_lt found.0 x) [
          | inl beyond ↦ absurd (none-some b (sym (entry.none x beyond until) ∙ e))
          | inr here ↦ omega (arith, past, same-stop found entry x b (omega arith) e)
        ]
      ];
    }

    -- the end of its sequence or the position, if it doesn't
    pub reaches-past : (found : ℕ × ℕ) → IsLastBlock look last found → found.1 ≤ position → ReachesFrom look position last
    reaches-past found entry stops = record {
      before = λ x b low e. elim (cases_lt x found.0) [
        | inl before ↦ early found entry x b before e
        | inr until ↦ elim (cases_lt found.0 x) [
          | inl beyond ↦ absurd (none-some b (sym (entry.none x beyond (omega arith)) ∙ e))
          | inr here ↦ omega (arith, stops, same-stop found entry x b (omega arith) e)
        ]
      ];
      after = after-last;
    }

  -- ---- the rows of a walk

  module _ (start stop low : ℕ) (reaches : ReachesFrom look start low) where
    abbrev kept : Key → Option Kept
    kept = kept_at o (names_of g) records

    -- an entry before the walk doesn't reach into the region
    early-none : filter (is_in s t start stop) (side_entries kept s t low) ≡ []
    early-none = filter-none (is_in s t start stop) (side_entries kept s t low) (λ e m. false_from_ne_true _ (λ yes_in.
        let found = mem-values (λ p. option_map (λ v. ((s, t, p), v)) (kept (s, t, p))) low e m in
        go found.0 found.1 e (in-parts s t start stop e yes_in).2 (kept (s, t, found.0)) refl found.2))
      where
        go : (x : ℕ) → x < low → (e : Key × Kept) → start < e.1.stop → (v : Option Kept) → kept (s, t, x) ≡ v → option_map (λ v. ((s, t, x), v)) v ≡ Some e → ⊥
        go x below e past None at is = let never : ◌≡◌ {A = Option (Key × Kept)} None (Some e) = is in cc
        go x below e past (Some b) at is =
            let same : ((s, t, x), b) ≡ e = cc in
            omega (arith, reaches.before x b below (right.blocks (s, t, x) ∙ at), past, ap (λ (y : Key × Kept). y.1.stop) same)

    -- nor is one past the end of the sequence
    late-none : filter (is_in s t start stop) (from (s, t, sequence_length g s) entries) ≡ []
    late-none = filter-none (is_in s t start stop) (from (s, t, sequence_length g s) entries) (λ e m. false_from_ne_true _ (λ yes_in.
        let own : e.0 ≡ (s, t, e.0.2) = (in-parts s t start stop e yes_in).0 in
        let inside = mem-filter (λ e. is_le (key_cmp (s, t, sequence_length g s) e.0)) entries e m in
        let high : is_le (nat_cmp (sequence_length g s) e.0.2) ≡ true
        = ap is_le (sym (key_cmp-group s t (sequence_length g s) e.0.2)) ∙ ap (λ (k : Key). is_le (key_cmp (s, t, sequence_length g s) k)) (sym own) ∙ inside.1 in
        no_entry kept (sequence_length g) entries right.ordered right.blocks (none-past o g width records fit) s t e inside.0
        (ap (λ (k : Key). k.0) own) (ap (λ (k : Key). k.1) own) (le_from_is_le (sequence_length g s) e.0.2 high)))

    -- so the entries of the walk that share a position with the region are the side's
    entries-in : filter (is_in s t start stop) (from (s, t, low) entries) ≡ map (entry_of o g s t) (side_blocks_in o g records s start stop t)
    entries-in =
        let on = walked-on kept (sequence_length g) entries right.ordered right.blocks (none-past o g width records fit) s t in
        let n : ℕ = sequence_length g s in
        sym (ap (λ (l : Entries). l ++ filter (is_in s t start stop) (from (s, t, low) entries)) early-none)
        ∙ sym (filter-append (is_in s t start stop) (side_entries kept s t low) (from (s, t, low) entries))
        ∙ ap (filter (is_in s t start stop)) (sym (on low) ∙ on n)
        ∙ filter-append (is_in s t start stop) (side_entries kept s t n) (from (s, t, n) entries)
        ∙ ap (λ (l : Entries). filter (is_in s t start stop) (side_entries kept s t n) ++ l) late-none
        ∙ append-nil (filter (is_in s t start stop) (side_entries kept s t n))
        ∙ ap (filter (is_in s t start stop)) (side-is o g records s t n)
        ∙ filter-mapped (is_in s t start stop) (λ b. shares start stop b.0 b.1.0) (entry_of o g s t) (side_blocks o g records s t)
        (λ b. ap (λ (y : Bool). y && shares start stop b.0 b.1.0) (of-key s t b.0 (entry_of o g s t b).1))

    -- each one that starts before the region stops shares a position with it
    early-in : filter (is_early s t stop) (from (s, t, low) entries) ≡ filter (is_in s t start stop) (from (s, t, low) entries)
    early-in = filter-agree (is_early s t stop) (is_in s t start stop) (from (s, t, low) entries) (λ e m. in-is_early s t start stop e (λ own.
        let inside = mem-filter (λ e. is_le (key_cmp (s, t, low) e.0)) entries e m in
        let high : is_le (nat_cmp low e.0.2) ≡ true
        = ap is_le (sym (key_cmp-group s t low e.0.2)) ∙ ap (λ (k : Key). is_le (key_cmp (s, t, low) k)) (sym own) ∙ inside.1 in
        let at : look e.0.2 ≡ Some e.1 = ap (value_at key_cmp entries) (sym own) ∙ value-of entries e (ascends-all entries right.ordered) inside.0 in
        reaches.after e.0.2 e.1 (le_from_is_le low e.0.2 high) at))

    pub rows-in : flat_map (entry_row g) (filter (is_early s t stop) (from (s, t, low) entries)) ≡ flat_map (block_row (sequence_name g s) (listed o.summaries)) (side_blocks_in o g records s start stop t)
    rows-in = ap (flat_map (entry_row g)) (early-in ∙ entries-in) ∙ flat_map-map (entry_row g) (entry_of o g s t) (side_blocks_in o g records s start stop t)

    pub count-in : length (filter (is_early s t stop) (from (s, t, low) entries)) ≡ length (side_blocks_in o g records s start stop t)
    count-in = ap (λ (l : Entries). length l) (early-in ∙ entries-in) ∙ length-map (side_blocks_in o g records s start stop t) (entry_of o g s t)

-- ---- the sides

module _ (o : BlockOptions) (g : Sequences) (records : List RecordValue) (s start stop : ℕ) where
  -- the rows of one side
  abbrev pub side_text : Bool → List ℕ
  side_text t = flat_map (block_row (sequence_name g s) (listed o.summaries)) (side_blocks_in o g records s start stop t)

  blocks-together : o.stranded ≡ false → blocks_in o g records s start stop ≡ side_blocks_in o g records s start stop false
  blocks-together e = ap (λ (b : Bool). flat_map (side_blocks_in o g records s start stop) (sides b)) e ∙ append-nil (side_blocks_in o g records s start stop false)

  blocks-apart : o.stranded ≡ true → blocks_in o g records s start stop ≡ side_blocks_in o g records s start stop false ++ side_blocks_in o g records s start stop true
  blocks-apart e =
      ap (λ (b : Bool). flat_map (side_blocks_in o g records s start stop) (sides b)) e
      ∙ ap (λ (l : List (ℕ × (ℕ × List RecordValue))). side_blocks_in o g records s start stop false ++ l) (append-nil (side_blocks_in o g records s start stop true))

  pub text-together : o.stranded ≡ false → merge_text_in o g records s start stop ≡ side_text false
  text-together e = ap (λ (b : Bool). flat_map side_text (sides b)) e ∙ append-nil (side_text false)

  pub text-apart : o.stranded ≡ true → merge_text_in o g records s start stop ≡ side_text false ++ side_text true
  text-apart e =
      ap (λ (b : Bool). flat_map side_text (sides b)) e
      ∙ ap (λ (l : List ℕ). side_text false ++ l) (append-nil (side_text true))

  pub count-together : o.stranded ≡ false → length (blocks_in o g records s start stop) ≡ length (side_blocks_in o g records s start stop false)
  count-together e = ap (λ (l : List (ℕ × (ℕ × List RecordValue))). length l) (blocks-together e)

  pub count-apart : o.stranded ≡ true → length (blocks_in o g records s start stop) ≡ length (side_blocks_in o g records s start stop false) + length (side_blocks_in o g records s start stop true)
  count-apart e =
      ap (λ (l : List (ℕ × (ℕ × List RecordValue))). length l) (blocks-apart e)
      ∙ length-append (side_blocks_in o g records s start stop false) (side_blocks_in o g records s start stop true)
