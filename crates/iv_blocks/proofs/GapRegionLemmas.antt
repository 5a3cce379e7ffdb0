-- The gaps of a sequence from a position on, and those that share a position with a region.
use Rattle.std.proofs.Common.{◌≡◌, ◌≢◌, ℕ, zero, suc, ◌+◌, ◌-◌, ◌<◌, ◌≤◌, ◌==◌, inl, inr, ◌&&◌, ◌||◌, not, nat_lt, nat_le, min, Bool, true, false, if◌then◌else◌, List, [], ◌∷◌, ◌++◌, filter, length, Option, Some, None, refl, sym, ◌∙◌, ap, ap₂, arith, All, lt-ltb, le-ltb, le-leb, eq-eqb, eqb-true, leb-true, append-nil, length-append}
use Rattle.std.specs.List.{flat_map}
use Rattle.std.proofs.lemmas.Bool.{and_from, and_left, and_right, cases_Bool, cases_lt, cases_eq, cond-true, cond-false, false_from_ne_true, both_ways, ne_eqb}
use Rattle.std.proofs.lemmas.List.Concat.{flat_map-append}
use Rattle.std.proofs.lemmas.List.Elements.{filter-append}
use Rattle.std.proofs.lemmas.Option.{none-some}
use Rattle.iv_lines.specs.Genome.{Sequences, sequence_length}
use Rattle.iv_lines.specs.Named.{names_of}
use Rattle.iv_lines.specs.Read.{Fits}
use Rattle.iv_lines.specs.RecordValue.{RecordValue}
use Rattle.iv_lines.proofs.ListLemmas.{Mem, mem-contains, filter-none, any-found, any-at}
use Rattle.iv_cover.specs.Blocks.{is_block_start, start_of, stop_of}
use Rattle.iv_cover.specs.Depth.{depth}
use Rattle.iv_cover.specs.Runs.{Run, empty_runs}
use Rattle.iv_cover.proofs.Cover.{Free, Lasting, IsBlock, next_start, home, home-starts, home-le}
use Rattle.iv_cover.proofs.EmptyLemmas.{empty_runs-none, empty_runs-skip}
use Rattle.iv_cover.proofs.EmptyMeanings.{empty-bare}
use Rattle.iv_blocks.specs.ComplementRows.{gap_row}
use Rattle.iv_blocks.specs.Inside.Texts.{is_shown}
use Rattle.iv_blocks.specs.Groups.{group, plain_options, listed}
use Rattle.iv_blocks.specs.Inside.BlockCursor.{gap_between}
use Rattle.iv_blocks.specs.Inside.Lookups.{IsFirstBlock, IsLastBlock}
use Rattle.iv_blocks.specs.Inside.Regions.{BeginsGap, gaps_from, kept_on}
use Rattle.iv_blocks.specs.KeptBlocks.{Kept, Entries, AreBlocksOf, name_of}
use Rattle.iv_track.specs.Regions.{shares}
use Rattle.iv_blocks.specs.RegionRows.{gaps_in}
use Rattle.iv_blocks.proofs.ComplementLemmas.{depth-some, depth-none, in-group, within}
use Rattle.iv_blocks.proofs.GapLemmas.{runs-gap}
use Rattle.iv_blocks.proofs.KeptLemmas.{group-in}
use Rattle.iv_blocks.proofs.RegionLemmas.{lasting, block-is, starts-low}
use Rattle.iv_blocks.proofs.RepairLemmas.{none-shown_is}
use Rattle.iv_blocks.proofs.UnstrandedLemmas.{all-lie}

-- ---- gaps and a region

-- a filter of a list that may be left out
filter-if : {X : Type 0} (p : X → Bool) (shown : Bool) (xs : List X) → filter p (if shown then xs else []) ≡ (if shown then filter p xs else [])
filter-if p true xs = refl
filter-if p false xs = refl

abbrev gap_of : ℕ → ℕ → Run
gap_of a b = record { start = a; stop = b; value = 0 }

module _ (start stop : ℕ) where
  -- the gap shares a position with the region
  abbrev pub is_near : Run → Bool
  is_near gap = shares start stop gap.start gap.stop

  gap-none : (a b : ℕ) → b ≤ start → filter is_near (gap_between a b) ≡ []
  gap-none a b early = elim (cases_Bool (nat_lt a b)) [
    | inl e ↦ ap (filter is_near) (cond-true (nat_lt a b) (gap_of a b ∷ []) [] e)
        ∙ cond-false (is_near (gap_of a b)) _ _ (and_right (nat_lt a stop) (nat_lt start b) (le-ltb start b early))
    | inr e ↦ ap (filter is_near) (cond-false (nat_lt a b) (gap_of a b ∷ []) [] e)
  ]

  gap-all : (a b : ℕ) → a < stop → start < b → filter is_near (gap_between a b) ≡ gap_between a b
  gap-all a b low high = elim (cases_Bool (nat_lt a b)) [
    | inl e ↦ ap (filter is_near) (cond-true (nat_lt a b) (gap_of a b ∷ []) [] e)
        ∙ cond-true (is_near (gap_of a b)) _ _ (and_from _ _ (lt-ltb a stop low) (lt-ltb start b high))
        ∙ sym (cond-true (nat_lt a b) (gap_of a b ∷ []) [] e)
    | inr e ↦ ap (filter is_near) (cond-false (nat_lt a b) (gap_of a b ∷ []) [] e)
        ∙ sym (cond-false (nat_lt a b) (gap_of a b ∷ []) [] e)
  ]

  -- no gap that begins after the region is near it
  far-none : (f : ℕ → ℕ) (low to : ℕ) → stop ≤ low → filter is_near (empty_runs f low to) ≡ []
  far-none f low to far = filter-none is_near (empty_runs f low to) (λ gap m.
      let bounds = empty-bare f low to gap (mem-contains (empty_runs f low to) gap m) in
      and_left (nat_lt gap.start stop) (nat_lt start gap.stop) (le-ltb gap.start stop (omega (arith, bounds.0, far))))

-- the first position from here on where a function isn't 0
first-some : (f : ℕ → ℕ) (k from : ℕ) → f (from + k) ≢ 0 → (mid : ℕ) × (from ≤ mid) × (mid ≤ from + k) × (f mid ≢ 0) × ((q : ℕ) → from ≤ q → q < mid → f q ≡ 0)
first-some f zero from some =
    let at : from + zero ≡ from = omega arith in
    (from, omega arith, omega arith, (λ e. some (ap f at ∙ e)), λ q low high. absurd (omega arith))
first-some f (suc k) from some = elim (cases_eq (f from) 0) [
  | inl none ↦
      let at : (from + 1) + k ≡ from + suc k = omega arith in
      let rest = first-some f k (from + 1) (λ e. some (ap f (sym at) ∙ e)) in (
        rest.0,
        omega (arith, rest.1),
        omega (arith, rest.2),
        rest.3,
        λ q low high. elim (cases_eq q from) [ inl is ↦ ap f is ∙ none | inr ne ↦ rest.4 q (omega arith) high ],
      )
  | inr here ↦ (from, omega arith, omega arith, here, λ q low high. absurd (omega arith))
]

-- gaps up to a position where the function isn't 0 aren't near a region that starts after it
early-none : (start stop : ℕ) (f : ℕ → ℕ) (k from p to : ℕ) → p ≤ from + k → from ≤ p → p < to → f p ≢ 0 → p ≤ start
    → filter (is_near start stop) (empty_runs f from to) ≡ filter (is_near start stop) (empty_runs f p to)
early-none start stop f zero from p to near low high some early = let at : from ≡ p = omega arith in ap (λ (n : ℕ). filter (is_near start stop) (empty_runs f n to)) at
early-none start stop f (suc j) from p to near low high some early =
    let end : from + (p - from) ≡ p = omega arith in
    let next = first-some f (p - from) from (λ e. some (sym (ap f end) ∙ e)) in
    let mid : ℕ = next.0 in
    let within_p : mid ≤ p = omega (arith, next.2, end) in
    ap (filter (is_near start stop)) (runs-gap f from mid to next.1 (omega (arith, within_p)) next.4 (λ below is. next.3 (sym is)))
    ∙ filter-append (is_near start stop) (gap_between from mid) (empty_runs f mid to)
    ∙ ap (λ (l : List Run). l ++ filter (is_near start stop) (empty_runs f mid to)) (gap-none start stop from mid (omega (arith, within_p)))
    ∙ elim (cases_lt mid p) [
      | inl before ↦
          ap (filter (is_near start stop)) (empty_runs-skip f mid (mid + 1) to (omega arith) (omega (arith, before)) (λ q above below is.
          let at : q ≡ mid = omega arith in next.3 (sym (ap f at) ∙ is)))
          ∙ early-none start stop f j (mid + 1) p to (omega (arith, next.1)) (omega (arith, before)) high some early
      | inr reached ↦ let at : mid ≡ p = omega (arith, within_p, reached) in ap (λ (n : ℕ). filter (is_near start stop) (empty_runs f n to)) at
    ]

-- ---- the gaps of a sequence

module _ (g : Sequences) (width : ℕ) (records : List RecordValue) (entries : Entries) (right : AreBlocksOf (plain_options 0) (names_of g) records entries) (fit : All (Fits g width) records) (s : ℕ) where
  abbrev own : List RecordValue
  own = group false s false records

  abbrev look : ℕ → Option Kept
  look x = kept_on entries s x

  abbrev end : ℕ
  end = sequence_length g s

  last_own : Lasting start_of stop_of 0 own
  last_own = lasting (plain_options 0) g width records entries right fit s false

  block : (x : ℕ) (b : Kept) → look x ≡ Some b → IsBlock start_of stop_of 0 own x b.stop
  block x b e = block-is (plain_options 0) g width records entries right fit s false x b e

  low-start : (x : ℕ) (b : Kept) → look x ≡ Some b → x < end
  low-start x b e = starts-low (plain_options 0) g width records entries right fit s false x b e

  not_start : (x : ℕ) → look x ≡ None → is_block_start start_of stop_of 0 own x ≡ false
  not_start x e = none-shown_is 0 (name_of (names_of g) s) (listed (plain_options 0).summaries) own x last_own (sym (right.blocks (s, false, x)) ∙ e)

  inside : (q : RecordValue) → Mem q own → (q.start < q.stop) × (q.stop ≤ end)
  inside q m = within g records (all-lie g width records fit) s q m

  low-stop : (x : ℕ) (b : Kept) → look x ≡ Some b → b.stop ≤ end
  low-stop x b e =
      let is = block x b e in
      let last = is.covered b.stop is.long (omega arith) in
      omega (arith, last.3, (inside last.0 last.1).1)

  -- no record before the first block
  before-none : (p : ℕ) → ((x : ℕ) → x ≤ p → look x ≡ None) → (q : RecordValue) → Mem q own → q.start ≤ p → ⊥
  before-none p none q m low =
      let h : ℕ = home start_of stop_of 0 own q in
      both_ways _ (not_start h (none h (omega (arith, home-le start_of stop_of 0 own q, low)))) (home-starts start_of stop_of 0 own q m)

  open_at : (low : ℕ) → BeginsGap look low → Free start_of stop_of 0 own (suc low)
  open_at low (inl begin) q m before =
      absurd (before-none 0 (λ x within. let at : x ≡ 0 = omega arith in ap look at ∙ begin.1) q m (omega (arith, begin.0, before)))
  open_at low (inr after) q m before =
      let ends = (block after.0 after.1 after.2).ends q m (omega (arith, after.3, before)) in
      omega (arith, after.3, ends)

  low-within : (low : ℕ) → BeginsGap look low → low ≤ end
  low-within low (inl begin) = omega (arith, begin.0)
  low-within low (inr after) = omega (arith, low-stop after.0 after.1 after.2, after.3)

  -- from a gap's begin to the next block the depth is 0
  clear : (low next : ℕ) → BeginsGap look low → ((x : ℕ) → low ≤ x → x < next → look x ≡ None) → (p : ℕ) → low ≤ p → p < next → depth records s p ≡ 0
  clear low next begin none p above below = depth-none records s p (λ q m before. elim (cases_lt q.start (suc low)) [
    | inl early ↦ omega (arith, open_at low begin q m early, above)
    | inr late ↦
        let z = next_start start_of stop_of 0 own q.start (suc low) q m (open_at low begin) late (omega arith) in
        absurd (both_ways _ (not_start z.0 (none z.0 (omega (arith, z.1)) (omega (arith, z.2, before, below)))) z.3)
  ])

  full : (x : ℕ) (b : Kept) → look x ≡ Some b → (p : ℕ) → x ≤ p → p < b.stop → depth records s p ≢ 0
  full x b e p above below = depth-some records s p ((block x b e).covered (suc p) (omega arith) (omega arith))

  gap-next : (low next : ℕ) (b : Kept) → BeginsGap look low → low ≤ next → ((x : ℕ) → low ≤ x → x < next → look x ≡ None) → look next ≡ Some b
      → empty_runs (depth records s) low end ≡ gap_between low next ++ empty_runs (depth records s) b.stop end
  gap-next low next b begin above none e =
      let long = (block next b e).long in
      runs-gap (depth records s) low next end above (omega (arith, low-start next b e)) (clear low next begin none) (λ below is. full next b e next (omega arith) long (sym is))
      ∙ ap (λ (l : List Run). gap_between low next ++ l) (empty_runs-skip (depth records s) next b.stop end (omega (arith, long)) (low-stop next b e) (full next b e))

  gap-last : (low : ℕ) → BeginsGap look low → ((x : ℕ) → low ≤ x → look x ≡ None) → empty_runs (depth records s) low end ≡ gap_between low end
  gap-last low begin none =
      runs-gap (depth records s) low end end (low-within low begin) (omega arith) (clear low end begin (λ x above below. none x above)) (λ never. absurd (omega arith))
      ∙ ap (λ (l : List Run). gap_between low end ++ l) (empty_runs-none (depth records s) end end (omega arith))
      ∙ append-nil (gap_between low end)

  -- a block starts past a gap's begin
  start-past : (low next : ℕ) (b : Kept) → BeginsGap look low → low ≤ next → look next ≡ Some b → low < next
  start-past low next b begin above e = elim (cases_lt low next) [
    | inl past ↦ past
    | inr same ↦
        let first = (block next b e).starts in
        absurd (omega (arith, open_at low begin first.0 first.1 (omega (arith, first.2, same)), (inside first.0 first.1).0, first.2, above))
  ]

  shown-some : (limited : Bool) (x : ℕ) (b : Kept) → look x ≡ Some b → is_shown limited records s ≡ true
  shown-some false x b e = refl
  shown-some true x b e =
      let first = (block x b e).starts in
      let both = group-in false s false records first.0 first.1 in
      any-at (λ (r : RecordValue). r.seq == s) records first.0 both.0 (eq-eqb first.0.seq s both.1)

  shown-last : (limited : Bool) (low : ℕ) → BeginsGap look low → ((x : ℕ) → low ≤ x → look x ≡ None) → is_shown limited records s ≡ not (limited && (low == 0))
  shown-last false low begin none = refl
  shown-last true low (inl begin) none =
      false_from_ne_true _ (λ e.
      let found = any-found (λ (r : RecordValue). r.seq == s) records e in
      before-none found.0.start (λ x below. none x (omega (arith, begin.0))) found.0 (in-group s records found.0 found.1 (eqb-true _ _ found.2)) (omega arith))
      ∙ sym (ap not (eq-eqb low 0 begin.0))
  shown-last true low (inr after) none =
      shown-some true after.0 after.1 after.2
      ∙ sym (ap not (ne_eqb low 0 (λ at. omega (arith, at, after.3, (block after.0 after.1 after.2).long))))

  module _ (limited : Bool) (start stop : ℕ) where
    abbrev left : ℕ → List Run
    left low = gaps_from limited g records s start stop low

    left-next : (low : ℕ) (found : ℕ × ℕ) → BeginsGap look low → IsFirstBlock look low found → low < stop → start < found.0 → left low ≡ gap_between low found.0 ++ left found.1
    left-next low found begin entry near past =
        let b : Kept = record { stop = found.1; results = entry.results } in
        let shown = shown-some limited found.0 b entry.is in
        cond-true (is_shown limited records s) _ _ shown
        ∙ ap (filter (is_near start stop)) (gap-next low found.0 b begin entry.within entry.none entry.is)
        ∙ filter-append (is_near start stop) (gap_between low found.0) (empty_runs (depth records s) found.1 end)
        ∙ ap₂ (λ (k l : List Run). k ++ l) (gap-all start stop low found.0 near past) (sym (cond-true (is_shown limited records s) _ _ shown))

    pub text-next : (name : List ℕ) (low : ℕ) (found : ℕ × ℕ) → BeginsGap look low → IsFirstBlock look low found → low < stop → start < found.0
        → flat_map (gap_row name) (left low) ≡ flat_map (gap_row name) (gap_between low found.0) ++ flat_map (gap_row name) (left found.1)
    text-next name low found begin entry near past =
        ap (flat_map (gap_row name)) (left-next low found begin entry near past)
        ∙ flat_map-append (gap_row name) (gap_between low found.0) (left found.1)

    pub count-next : (low : ℕ) (found : ℕ × ℕ) → BeginsGap look low → IsFirstBlock look low found → low < stop → start < found.0 → length (left low) ≡ length (left found.1) + 1
    count-next low found begin entry near past =
        let b : Kept = record { stop = found.1; results = entry.results } in
        let one : gap_between low found.0 ≡ gap_of low found.0 ∷ []
        = cond-true (nat_lt low found.0) _ _ (lt-ltb low found.0 (start-past low found.0 b begin entry.within entry.is)) in
        omega (
          arith,
          ap (λ (l : List Run). length l) (left-next low found begin entry near past),
          length-append (gap_between low found.0) (left found.1),
          ap (λ (l : List Run). length l) one,
        )

    -- where the next gap may begin
    pub begins-next : (low : ℕ) (found : ℕ × ℕ) → IsFirstBlock look low found → BeginsGap look found.1
    begins-next low found entry = let b : Kept = record { stop = found.1; results = entry.results } in inr (found.0, b, entry.is, refl)

    pub stops-past : (low : ℕ) (found : ℕ × ℕ) → IsFirstBlock look low found → found.0 < found.1
    stops-past low found entry = (block found.0 (record { stop = found.1; results = entry.results }) entry.is).long

    pub left-last : (low : ℕ) → BeginsGap look low → ((x : ℕ) → low ≤ x → look x ≡ None) → low < stop
        → left low ≡ (if (limited && (low == 0)) || nat_le end start then [] else gap_between low end)
    left-last low begin none near =
        ap (λ (b : Bool). if b then filter (is_near start stop) (empty_runs (depth records s) low end) else []) (shown-last limited low begin none)
        ∙ ap (λ (l : List Run). if not (limited && (low == 0)) then filter (is_near start stop) l else []) (gap-last low begin none)
        ∙ go (limited && (low == 0))
      where
        go : (hidden : Bool) → (if not hidden then filter (is_near start stop) (gap_between low end) else []) ≡ (if hidden || nat_le end start then [] else gap_between low end)
        go true = refl
        go false = elim (cases_lt start end) [
          | inl reaches ↦ gap-all start stop low end near reaches ∙ sym (cond-false (nat_le end start) _ _ (false_from_ne_true _ (λ e. omega (arith, leb-true _ _ e, reaches))))
          | inr beyond ↦ gap-none start stop low end beyond ∙ sym (cond-true (nat_le end start) _ _ (le-leb _ _ beyond))
        ]

    pub left-none : (low : ℕ) → stop ≤ low → left low ≡ []
    left-none low far = elim (cases_Bool (is_shown limited records s)) [
      | inl e ↦ cond-true (is_shown limited records s) _ _ e ∙ far-none start stop (depth records s) low end far
      | inr e ↦ cond-false (is_shown limited records s) _ _ e
    ]

    -- ---- where the first gap may begin

    pub left-all : gaps_in limited g records s start stop ≡ left 0
    left-all = filter-if (is_near start stop) (is_shown limited records s) (empty_runs (depth records s) 0 end)

    -- the gaps before the last block that starts up to the region's start aren't near it
    pub left-begin : (last : ℕ) (found : ℕ × ℕ) → last ≤ start → IsLastBlock look last found → gaps_in limited g records s start stop ≡ left found.1
    left-begin last found low entry =
        let b : Kept = record { stop = found.1; results = entry.results } in
        let long = (block found.0 b entry.is).long in
        let some = full found.0 b entry.is in
        left-all
        ∙ ap (λ (l : List Run). if is_shown limited records s then l else [])
        (early-none start stop (depth records s) found.0 0 found.0 end (omega arith) (omega arith) (low-start found.0 b entry.is) (some found.0 (omega arith) long) (omega (arith, entry.within, low))
        ∙ ap (filter (is_near start stop)) (empty_runs-skip (depth records s) found.0 found.1 end (omega (arith, long)) (low-stop found.0 b entry.is) some))

    module _ (last : ℕ) (is : last ≡ min end start) where
      pub past-last : (x : ℕ) (b : Kept) → last < x → look x ≡ Some b → start < x
      past-last x b high e = omega (arith, is, low-start x b e, high)

      pub past-some : (found : ℕ × ℕ) → IsLastBlock look last found → (x : ℕ) (b : Kept) → found.1 ≤ x → look x ≡ Some b → start < x
      past-some found entry x b above e = elim (cases_lt last x) [
        | inl past ↦ past-last x b past e
        | inr until ↦
            let long = (block found.0 (record { stop = found.1; results = entry.results }) entry.is).long in
            absurd (none-some b (sym (entry.none x (omega (arith, long, above)) until) ∙ e))
      ]

      pub past-none : ((x : ℕ) → x ≤ last → look x ≡ None) → (x : ℕ) (b : Kept) → 0 ≤ x → look x ≡ Some b → start < x
      past-none none x b above e = elim (cases_lt last x) [
        | inl past ↦ past-last x b past e
        | inr until ↦ absurd (none-some b (sym (none x until) ∙ e))
      ]
