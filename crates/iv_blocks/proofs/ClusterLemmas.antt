-- The numbers of the records' blocks.
use Rattle.std.proofs.Common.{◌≡◌, ℕ, zero, suc, ◌+◌, ◌-◌, ◌<◌, ◌≤◌, ◌++◌, ◌==◌, ◌&&◌, nat_le, nat_lt, Bool, true, false, List, [], ◌∷◌, map, length, Option, Some, None, refl, sym, ◌∙◌, ap, subst, inl, inr, arith, All, append_assoc, append-nil, length-append, eqb-true, ltb-true, leb-true}
use Rattle.std.specs.Option.{option_map}
use Rattle.std.specs.Prelude.{codes, decimal, sum}
use Rattle.std.specs.declared.cmp.Ordering.TheVariants.{Equal, Greater}
use Rattle.std.specs.List.{flat_map, take_while, prefix_len, range_with_len, sum_by, AllByRecursion}
use Rattle.std.specs.Ordering.{is_le, nat_cmp, bool_cmp, ordering_then}
use Rattle.std.specs.Cmp.{nat_cmp_is, nat_cmp_total, tied_itself}
use Rattle.std.proofs.lemmas.Bool.{and_from, and_parts, cases_Bool, or_cases, or_left, or_right, false_from_ne_true, lt-ltb, le-leb, eq-eqb}
use Rattle.std.proofs.Math.Bool.{and-true}
use Rattle.std.proofs.lemmas.List.{map-append, length-map, take-append-drop}
use Rattle.std.proofs.lemmas.List.Concat.{length-flat_map}
use Rattle.std.proofs.lemmas.List.Sums.{sum-map}
use Rattle.iv_lines.specs.Genome.{Sequences, sequence_length}
use Rattle.iv_lines.specs.Named.{names_of}
use Rattle.iv_lines.specs.Ordered.{AreInOrder}
use Rattle.iv_lines.specs.Read.{Fits}
use Rattle.iv_lines.specs.RecordText.{record_text}
use Rattle.iv_lines.specs.RecordValue.{RecordValue, record_cmp}
use Rattle.iv_cover.specs.Blocks.{blocks_below, block_at, start_of, stop_of}
use Rattle.iv_lines.specs.CoveredPositions.{on}
use Rattle.iv_lines.specs.declared.interval.Interval.{Interval}
use Rattle.iv_cover.proofs.Groups.{mem-append}
use Rattle.iv_lines.proofs.PrecedesLemmas.{Precedes, precedes-from}
use Rattle.iv_lines.proofs.ListLemmas.{Mem, filter-agree, mem-filter}
use Rattle.iv_blocks.specs.Inside.BlockCursor.{interval_of, starts_until, drop_while, BeginsElse}
use Rattle.iv_blocks.specs.ClusterRows.{blocks_before, blocks_until, cluster_row}
use Rattle.iv_blocks.specs.Inside.Groups.{is_in_group}
use Rattle.iv_blocks.specs.Groups.{group, listed}
use Rattle.iv_blocks.specs.KeptBlocks.{Key, Kept, Entries, AreBlocksOf, key_cmp, kept_at, kept_block, name_of}
use Rattle.iv_blocks.specs.declared.options.BlockOptions.{BlockOptions}
use Rattle.iv_blocks.proofs.BlockCursorLemmas.{take-all, begins-else, take-first, take-none, drop-first, drop-none}
use Rattle.iv_blocks.proofs.EntryLemmas.{from, entry-found, side_entries, rank_entries, all_entries, walked-on, ranks-all}
use Rattle.iv_blocks.proofs.KeptLemmas.{none-past, side-is, side-other, entry_of, group-other}
use Rattle.iv_blocks.proofs.ComplementLemmas.{mem-values}

-- ---- blocks up to a record

-- a later record has all blocks before it that an earlier one has
until-later : (q r : RecordValue) (b : Interval) → Precedes q r → starts_until q.seq q.start b ≡ true → starts_until r.seq r.start b ≡ true
until-later q r b precedes passes = elim (or_cases (nat_lt b.seq q.seq) ((b.seq == q.seq) && nat_le b.start q.start) passes) [
  | inl lower ↦
      let low : b.seq < q.seq = ltb-true _ _ lower in
      elim precedes [
        | inl less ↦ or_left (nat_lt b.seq r.seq) _ (lt-ltb b.seq r.seq (omega (arith, less)))
        | inr same ↦ or_left (nat_lt b.seq r.seq) _ (lt-ltb b.seq r.seq (omega (arith, same.0)))
      ]
  | inr here ↦
      let both = and_parts (b.seq == q.seq) (nat_le b.start q.start) here in
      let seq : b.seq ≡ q.seq = eqb-true _ _ both.0 in
      let start : b.start ≤ q.start = leb-true _ _ both.1 in
      elim precedes [
        | inl less ↦ or_left (nat_lt b.seq r.seq) _ (lt-ltb b.seq r.seq (omega (arith, seq, less)))
        | inr same ↦ or_right (nat_lt b.seq r.seq) _ (and_from _ _ (eq-eqb b.seq r.seq (omega (arith, seq, same.0))) (le-leb b.start r.start (omega (arith, start, same.1))))
      ]
]

later-rows : (r : RecordValue) (records : List RecordValue) → AllByRecursion (λ y. is_le (record_cmp r y) ≡ true) records → (q : RecordValue) → Mem q records → Precedes r q
later-rows r [] all q m = absurd m
later-rows r (x ∷ records) all q (inl at) = subst (λ y. Precedes r y) at (precedes-from r x all.0)
later-rows r (x ∷ records) all q (inr m) = later-rows r records all.1 q m

-- these are the blocks that the walk has gone past: each starts up to each record that remains
pub record IsPassed (number : ℕ) (all left : List Interval) (records : List RecordValue) : Type 0 where
  pub passed : List Interval
  pub whole : all ≡ passed ++ left
  pub count : number ≡ length passed
  pub until : (r : RecordValue) → Mem r records → (b : Interval) → Mem b passed → starts_until r.seq r.start b ≡ true

pub IsPassed-begin : (all left : List Interval) (records : List RecordValue) → left ≡ all → IsPassed 0 all left records
IsPassed-begin all left records same = record { passed = []; whole = sym same; count = refl; until = λ r m b never. absurd never }

split : (test : Interval → Bool) (blocks : List Interval) → blocks ≡ take_while test blocks ++ drop_while test blocks
split test blocks = sym (take-append-drop (prefix_len test blocks) blocks)

take-passes : (test : Interval → Bool) (blocks : List Interval) (b : Interval) → Mem b (take_while test blocks) → test b ≡ true
take-passes test [] b m = absurd m
take-passes test (x ∷ blocks) b m = go (λ later. take-passes test blocks b later) (test x) refl
  where
    go : (Mem b (take_while test blocks) → test b ≡ true) → (p : Bool) → test x ≡ p → test b ≡ true
    go rest true is = elim (subst (λ (l : List Interval). Mem b l) (take-first test (x ∷ blocks) blocks x refl is) m) [
      | inl at ↦ ap test (sym at) ∙ is
      | inr later ↦ rest later
    ]
    go rest false is = absurd (subst (λ (l : List Interval). Mem b l) (take-none test (x ∷ blocks) is) m)

-- a stricter test takes no more
take-fewer : (test more : Interval → Bool) → ((b : Interval) → test b ≡ true → more b ≡ true) → (blocks : List Interval) → length (take_while test blocks) ≤ length (take_while more blocks)
take-fewer test more weaker [] = omega arith
take-fewer test more weaker (x ∷ blocks) = elim (cases_Bool (test x)) [
  | inl e ↦
      omega (
        arith,
        take-fewer test more weaker blocks,
        ap (λ (l : List Interval). length l) (take-first test (x ∷ blocks) blocks x refl e),
        ap (λ (l : List Interval). length l) (take-first more (x ∷ blocks) blocks x refl (weaker x e)),
      )
  | inr e ↦ omega (arith, ap (λ (l : List Interval). length l) (take-none test (x ∷ blocks) e))
]

drop-begins : (test : Interval → Bool) (blocks : List Interval) → BeginsElse test (drop_while test blocks)
drop-begins test [] = tt
drop-begins test (x ∷ blocks) = go (drop-begins test blocks) (test x) refl
  where
    go : BeginsElse test (drop_while test blocks) → (p : Bool) → test x ≡ p → BeginsElse test (drop_while test (x ∷ blocks))
    go rest true is = subst (λ (l : List Interval). BeginsElse test l) (sym (drop-first test (x ∷ blocks) blocks x refl is)) rest
    go rest false is = subst (λ (l : List Interval). BeginsElse test l) (sym (drop-none test (x ∷ blocks) is)) is

module _ (number more : ℕ) (all left after : List Interval) (records rest : List RecordValue) (r : RecordValue) (h : IsPassed number all left records) (first : records ≡ r ∷ rest)
    (counted : more ≡ length (take_while (starts_until r.seq r.start) left)) (past : after ≡ drop_while (starts_until r.seq r.start) left) where
  passes : (b : Interval) → Mem b (h.passed ++ take_while (starts_until r.seq r.start) left) → starts_until r.seq r.start b ≡ true
  passes b m = elim (mem-append h.passed (take_while (starts_until r.seq r.start) left) b m) [
    | inl before ↦ h.until r (subst (λ (l : List RecordValue). Mem r l) (sym first) (inl refl)) b before
    | inr now ↦ take-passes (starts_until r.seq r.start) left b now
  ]

  pub IsPassed-next : AreInOrder records → IsPassed (number + more) all after rest
  IsPassed-next ordered =
      let sorted : AreInOrder (r ∷ rest) = subst (λ (l : List RecordValue). AreInOrder l) first ordered in
      record {
        passed = h.passed ++ take_while (starts_until r.seq r.start) left;
        whole = h.whole ∙ ap (λ (l : List Interval). h.passed ++ l) (split (starts_until r.seq r.start) left)
            ∙ sym (append_assoc h.passed (take_while (starts_until r.seq r.start) left) (drop_while (starts_until r.seq r.start) left))
            ∙ ap (λ (l : List Interval). (h.passed ++ take_while (starts_until r.seq r.start) left) ++ l) (sym past);
        count = omega (arith, h.count, counted, length-append h.passed (take_while (starts_until r.seq r.start) left));
        until = λ q m b here. until-later r q b (later-rows r rest sorted.0 q m) (passes b here);
      }

  -- those that were counted are no longer left
  pub left-is : length left ≡ more + length after
  left-is =
      let parts = ap (λ (l : List Interval). length l) (split (starts_until r.seq r.start) left) in
      omega (
        arith,
        parts,
        length-append (take_while (starts_until r.seq r.start) left) (drop_while (starts_until r.seq r.start) left),
        counted,
        ap (λ (l : List Interval). length l) past,
      )

  -- the number is that of all blocks up to the record
  pub number-is : number + more ≡ length (take_while (starts_until r.seq r.start) all)
  number-is =
      let parts : all ≡ (h.passed ++ take_while (starts_until r.seq r.start) left) ++ drop_while (starts_until r.seq r.start) left
      = h.whole ∙ ap (λ (l : List Interval). h.passed ++ l) (split (starts_until r.seq r.start) left)
      ∙ sym (append_assoc h.passed (take_while (starts_until r.seq r.start) left) (drop_while (starts_until r.seq r.start) left)) in
      let same = ap (take_while (starts_until r.seq r.start)) parts
      ∙ take-all (starts_until r.seq r.start) (h.passed ++ take_while (starts_until r.seq r.start) left) (drop_while (starts_until r.seq r.start) left) passes (drop-begins (starts_until r.seq r.start) left) in
      omega (arith, h.count, counted, length-append h.passed (take_while (starts_until r.seq r.start) left), ap (λ (l : List Interval). length l) same)

pub IsPassed-few : (number more : ℕ) (all left : List Interval) (records : List RecordValue) (r : RecordValue) → IsPassed number all left records → more ≡ length (take_while (starts_until r.seq r.start) left)
    → (number + more ≤ length all) × (length left ≤ length all)
IsPassed-few number more all left records r h counted =
    let whole : length all ≡ length h.passed + length left = ap (λ (l : List Interval). length l) h.whole ∙ length-append h.passed left in
    let part : length left ≡ length (take_while (starts_until r.seq r.start) left) + length (drop_while (starts_until r.seq r.start) left)
    = ap (λ (l : List Interval). length l) (split (starts_until r.seq r.start) left) ∙ length-append (take_while (starts_until r.seq r.start) left) (drop_while (starts_until r.seq r.start) left) in
    (omega (arith, h.count, counted, whole, part), omega (arith, whole))

-- ---- the number by the definition

-- what a sequence's own list has
mem-ranks : {X : Type 0} (own : ℕ → List X) (n seq : ℕ) (x : X) → Mem x (flat_map own (range_with_len seq n)) → (s : ℕ) × (s < seq + n) × Mem x (own s)
mem-ranks own zero seq x m = absurd m
mem-ranks own (suc n) seq x m = elim (mem-append (own seq) (flat_map own (range_with_len (seq + 1) n)) x m) [
  | inl here ↦ (seq, omega arith, here)
  | inr later ↦ let found = mem-ranks own n (seq + 1) x later in (found.0, omega (arith, found.1), found.2)
]

mem-side : (look : Key → Option Kept) (s : ℕ) (t : Bool) (n : ℕ) (e : Key × Kept) → Mem e (side_entries look s t n) → (e.0.0 ≡ s) × (e.0.2 < n)
mem-side look s t n e m =
    let found = mem-values (λ p. option_map (λ v. ((s, t, p), v)) (look (s, t, p))) n e m in
    let is_placed = of_side found.0 (look (s, t, found.0)) found.2 in
    (is_placed.0, omega (arith, is_placed.1, found.1))
  where
    of_side : (p : ℕ) (o : Option Kept) → option_map (λ v. ((s, t, p), v)) o ≡ Some e → (e.0.0 ≡ s) × (e.0.2 ≡ p)
    of_side p None is = cc
    of_side p (Some v) is = let same : ((s, t, p), v) ≡ e = some-is ((s, t, p), v) e is in (ap (λ (x : Key × Kept). x.0.0) (sym same), ap (λ (x : Key × Kept). x.0.2) (sym same))
      where
        some-is : (x y : Key × Kept) → Some x ≡ Some y → x ≡ y
        some-is x y is = cc

mem-map : {X Y : Type 0} (f : X → Y) (xs : List X) (y : Y) → Mem y (map f xs) → (x : X) × Mem x xs × (f x ≡ y)
mem-map f [] y m = absurd m
mem-map f (x ∷ xs) y (inl at) = (x, inl refl, at)
mem-map f (x ∷ xs) y (inr m) = let found = mem-map f xs y m in (found.0, inr found.1, found.2)

-- an entry past the position isn't up to it
past-key : (s p : ℕ) (x : Key) (v : Kept) → is_le (key_cmp (s, false, p + 1) x) ≡ true → x.1 ≡ false → starts_until s p (interval_of (x, v)) ≡ false
past-key s p x v after side = false_from_ne_true _ (λ e. elim (or_cases (nat_lt x.0 s) ((x.0 == s) && nat_le x.2 p) e) [
  | inl lower ↦
      let low : x.0 < s = ltb-true _ _ lower in
      let seq : Greater ≡ nat_cmp s x.0 = nat_cmp_is s x.0 Greater low in
      let never : false ≡ true = ap (λ o. is_le (ordering_then (ordering_then o (bool_cmp false x.1)) (nat_cmp (p + 1) x.2))) seq ∙ after in
      cc
  | inr here ↦
      let both = and_parts (x.0 == s) (nat_le x.2 p) here in
      let seq : s ≡ x.0 = sym (eqb-true _ _ both.0) in
      let start : x.2 ≤ p = leb-true _ _ both.1 in
      let same : nat_cmp s x.0 ≡ Equal = ap (nat_cmp s) (sym seq) ∙ tied_itself nat_cmp_total s in
      let past : Greater ≡ nat_cmp (p + 1) x.2 = nat_cmp_is (p + 1) x.2 Greater (omega (arith, start)) in
      let never : false ≡ true = rw (same, side, ← past) at after in
      cc
])

pub on-is : (s : ℕ) (records : List RecordValue) → group false s false records ≡ on s records
on-is s records = filter-agree (is_in_group false s false) (λ r. r.seq == s) records (λ q m. and-true (q.seq == s))

module _ (o : BlockOptions) (g : Sequences) (width : ℕ) (records : List RecordValue) (entries : Entries) (right : AreBlocksOf o (names_of g) records entries) (fit : All (Fits g width) records)
    (together : o.stranded ≡ false) where
  abbrev look : Key → Option Kept
  look = kept_at o (names_of g) records

  -- no block is on the other side
  no-other : (s p : ℕ) → look (s, true, p) ≡ None
  no-other s p =
      let none : group o.stranded s true records ≡ [] = ap (λ b. group b s true records) together ∙ group-other s records in
      ap (λ (l : List RecordValue). option_map (kept_block (name_of (names_of g) s) (listed o.summaries)) (block_at start_of stop_of o.distance l p)) none

  -- how many entries are below a position
  side-count : (s n : ℕ) → length (side_entries look s false n) ≡ blocks_before o.distance records s n
  side-count s n =
      ap (λ (l : Entries). length l) (side-is o g records s false n)
      ∙ length-map (blocks_below start_of stop_of o.distance (group o.stranded s false records) n) (entry_of o g s false)
      ∙ ap (λ (b : Bool). length (blocks_below start_of stop_of o.distance (group b s false records) n)) together
      ∙ ap (λ (l : List RecordValue). length (blocks_below start_of stop_of o.distance l n)) (on-is s records)

  seq-count : (s : ℕ) → length (rank_entries look (sequence_length g) s) ≡ blocks_before o.distance records s (sequence_length g s)
  seq-count s =
      ap (λ (l : Entries). length (side_entries look s false (sequence_length g s) ++ l)) (side-other o g records s (sequence_length g s) together)
      ∙ ap (λ (l : Entries). length l) (append-nil (side_entries look s false (sequence_length g s)))
      ∙ side-count s (sequence_length g s)

  ranks-count : (n : ℕ) → length (all_entries look (sequence_length g) n) ≡ sum (map (λ s. blocks_before o.distance records s (sequence_length g s)) (range_with_len 0 n))
  ranks-count n =
      length-flat_map (rank_entries look (sequence_length g)) (range_with_len 0 n)
      ∙ ap (λ (f : ℕ → ℕ). sum_by f (range_with_len 0 n)) (λ i s. seq-count s i)
      ∙ sym (sum-map (λ s. blocks_before o.distance records s (sequence_length g s)) (range_with_len 0 n))

  -- the blocks up to a position of a sequence
  pub count-until : (s p : ℕ) → length (take_while (starts_until s p) (map interval_of entries)) ≡ blocks_until o.distance g records s (p + 1)
  count-until s p =
      let lower : Entries = all_entries look (sequence_length g) s in
      let here : Entries = side_entries look s false (p + 1) in
      let later : Entries = from (s, false, p + 1) entries in
      let past = none-past o g width records fit in
      let parts : entries ≡ (lower ++ here) ++ later
      = ranks-all look (sequence_length g) entries right.ordered right.blocks past s
      ∙ ap (λ (l : Entries). lower ++ l) (walked-on look (sequence_length g) entries right.ordered right.blocks past s false (p + 1))
      ∙ sym (append_assoc lower here later) in
      let same : take_while (starts_until s p) (map interval_of entries) ≡ map interval_of (lower ++ here)
      = ap (λ (l : Entries). take_while (starts_until s p) (map interval_of l)) parts
      ∙ ap (take_while (starts_until s p)) (map-append interval_of (lower ++ here) later)
      ∙ take-all (starts_until s p) (map interval_of (lower ++ here)) (map interval_of later) (before s p) (begins-else (starts_until s p) (map interval_of later) (after s p)) in
      let long : length (map interval_of (lower ++ here)) ≡ length lower + length here = length-map (lower ++ here) interval_of ∙ length-append lower here in
      omega (arith, ap (λ (l : List Interval). length l) same, long, ranks-count s, side-count s (p + 1))
    where
      before : (s p : ℕ) (b : Interval) → Mem b (map interval_of (all_entries look (sequence_length g) s ++ side_entries look s false (p + 1))) → starts_until s p b ≡ true
      before s p b m =
          let found = mem-map interval_of (all_entries look (sequence_length g) s ++ side_entries look s false (p + 1)) b m in
          rw (← found.2) (elim (mem-append (all_entries look (sequence_length g) s) (side_entries look s false (p + 1)) found.0 found.1) [
            | inl lower ↦
                let at = mem-ranks (rank_entries look (sequence_length g)) s 0 found.0 lower in
                let seq : found.0.0.0 ≡ at.0 = elim (mem-append (side_entries look at.0 false (sequence_length g at.0)) (side_entries look at.0 true (sequence_length g at.0)) found.0 at.2) [
                  | inl first ↦ (mem-side look at.0 false (sequence_length g at.0) found.0 first).0
                  | inr other ↦ (mem-side look at.0 true (sequence_length g at.0) found.0 other).0
                ] in
                or_left (nat_lt found.0.0.0 s) _ (lt-ltb found.0.0.0 s (omega (arith, seq, at.1)))
            | inr here ↦
                let at = mem-side look s false (p + 1) found.0 here in
                or_right (nat_lt found.0.0.0 s) _ (and_from _ _ (eq-eqb found.0.0.0 s at.0) (le-leb found.0.0.2 p (omega (arith, at.1))))
          ])

      after : (s p : ℕ) (b : Interval) → Mem b (map interval_of (from (s, false, p + 1) entries)) → starts_until s p b ≡ false
      after s p b m =
          let found = mem-map interval_of (from (s, false, p + 1) entries) b m in
          let e = found.0 in
          let both = mem-filter (λ (x : Key × Kept). is_le (key_cmp (s, false, p + 1) x.0)) entries e found.1 in
          let side : e.0.1 ≡ false = false_from_ne_true e.0.1 (λ other.
          let key : e.0 ≡ (e.0.0, true, e.0.2) = ap (λ (t : Bool). (e.0.0, t, e.0.2)) other in
          entry-found entries e both.0 (right.blocks e.0 ∙ ap look key ∙ no-other e.0.0 e.0.2)) in
          rw (← found.2) (past-key s p e.0 e.1 both.1 side)

  -- up to a record there are no more than up to any position past its start
  pub count-below : (r : RecordValue) (s position number : ℕ) → r.seq ≡ s → r.start < position → number ≡ length (take_while (starts_until r.seq r.start) (map interval_of entries))
      → number ≤ blocks_until o.distance g records s position
  count-below r s position number is_on below is =
      let last : RecordValue = record r { start = position - 1 } in
      let later : Precedes r last = inr (refl, omega (arith, below)) in
      let fewer = take-fewer (starts_until r.seq r.start) (starts_until r.seq (position - 1)) (λ b passes. until-later r last b later passes) (map interval_of entries) in
      let all = count-until r.seq (position - 1) in
      let past : (position - 1) + 1 ≡ position = omega (arith, below) in
      subst (λ k. number ≤ blocks_until o.distance g records k position) is_on
      (subst (λ k. number ≤ blocks_until o.distance g records r.seq k) past (omega (arith, is, fewer, all)))

  -- the row of a record
  pub row-is : (r : RecordValue) (number : ℕ) → number ≡ length (take_while (starts_until r.seq r.start) (map interval_of entries))
      → cluster_row o.distance g records r ≡ record_text g r ++ codes "\t" ++ decimal number ++ codes "\n"
  row-is r number is = rw (is ∙ count-until r.seq r.start) refl

  -- the row of the next record, and those of the others
  pub rows-next : (left rest : List RecordValue) (r : RecordValue) (number : ℕ) → left ≡ r ∷ rest → number ≡ length (take_while (starts_until r.seq r.start) (map interval_of entries))
      → flat_map (cluster_row o.distance g records) left ≡ (record_text g r ++ codes "\t" ++ decimal number ++ codes "\n") ++ flat_map (cluster_row o.distance g records) rest
  rows-next left rest r number first is = rw first (ap (λ (l : List ℕ). l ++ flat_map (cluster_row o.distance g records) rest) (row-is r number is))
