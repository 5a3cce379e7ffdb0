-- Two records have one number exactly if they are in one block.
use Rattle.std.proofs.Common.{◌≡◌, ◌↔◌, ℕ, zero, suc, ◌+◌, ◌<◌, ◌≤◌, inl, inr, List, [], ◌∷◌, map, length, Option, Some, None, All, Contains, refl, sym, ◌∙◌, ap, subst, arith, add-one, length-append}
use Rattle.std.specs.List.{range_with_len, sum_by}
use Rattle.std.specs.Option.{option_map}
use Rattle.std.specs.Prelude.{sum}
use Rattle.std.proofs.lemmas.Bool.{cases_lt, cases_eq, both_ways, cond-true, false_from_ne_true}
use Rattle.std.proofs.lemmas.List.Sums.{sum-map, sum_by-append, sum_by-cons}
use Rattle.iv_lines.specs.Genome.{Sequences, sequence_length}
use Rattle.iv_lines.specs.Read.{IsOnGenome}
use Rattle.iv_lines.specs.RecordValue.{RecordValue}
use Rattle.iv_cover.specs.BlockTerms.{BelongsTo}
use Rattle.iv_cover.specs.Blocks.{is_block_start, block_at, block_stop, members, start_of, stop_of}
use Rattle.iv_lines.specs.CoveredPositions.{on}
use Rattle.iv_cover.proofs.BlockLemmas.{blocks-home}
use Rattle.iv_cover.proofs.Cover.{home, home-le, home-last, home-starts}
use Rattle.iv_cover.proofs.Last.{last-is}
use Rattle.iv_cover.proofs.Meanings.{member-means}
use Rattle.iv_cover.proofs.WalkLemmas.{on-from}
use Rattle.iv_cover.proofs.Positions.{range-more, values, values-none, values-some}
use Rattle.iv_lines.proofs.ListLemmas.{Mem, contains-mem, mem-contains, all-mem}
use Rattle.iv_blocks.specs.ClusterRows.{blocks_before}
use Rattle.iv_blocks.specs.Inside.Texts.{block_number}

-- ---- how many values there are

values-more_or_same : {Y : Type 0} (f : ℕ → Option Y) (n : ℕ) → length (values f n) ≤ length (values f (suc n))
values-more_or_same {Y} f n = go (f n) refl
  where
    go : (o : Option Y) → f n ≡ o → length (values f n) ≤ length (values f (suc n))
    go None is = omega (arith, ap (λ (l : List Y). length l) (values-none f n is))
    go (Some y) is = omega (arith, ap (λ (l : List Y). length l) (values-some f n y is), length-append (values f n) (y ∷ []))

values-rise : {Y : Type 0} (f : ℕ → Option Y) (m n : ℕ) → m ≤ n → length (values f m) ≤ length (values f n)
values-rise f m zero low = let at : m ≡ zero = omega arith in rw at (omega arith)
values-rise f m (suc n) low = elim (cases_eq m (suc n)) [
  | inl at ↦ rw at (omega arith)
  | inr ne ↦ omega (arith, values-rise f m n (omega arith), values-more_or_same f n)
]

-- a value between two positions
values-grow : {Y : Type 0} (f : ℕ → Option Y) (m x n : ℕ) (y : Y) → m ≤ x → x < n → f x ≡ Some y → length (values f m) < length (values f n)
values-grow {Y} f m x n y low high is =
    omega (
      arith,
      values-rise f m x low,
      ap (λ (l : List Y). length l) (values-some f x y is),
      length-append (values f x) (y ∷ []),
      values-rise f (suc x) n (omega arith),
    )

-- ---- sums below a rank

-- one rank more
total-more : (h : ℕ → ℕ) (n : ℕ) → sum (map h (range_with_len 0 (suc n))) ≡ sum (map h (range_with_len 0 n)) + h n
total-more h n =
    omega (
      arith,
      sum-map h (range_with_len 0 (suc n)),
      ap (sum_by h) (range-more n),
      sum_by-append h (range_with_len 0 n) (n ∷ []),
      sum_by-cons h n [],
      sum-map h (range_with_len 0 n),
    )

total-rise : (h : ℕ → ℕ) (m n : ℕ) → m ≤ n → sum (map h (range_with_len 0 m)) ≤ sum (map h (range_with_len 0 n))
total-rise h m zero low = let at : m ≡ zero = omega arith in rw at (omega arith)
total-rise h m (suc n) low = elim (cases_eq m (suc n)) [
  | inl at ↦ rw at (omega arith)
  | inr ne ↦ omega (arith, total-rise h m n (omega arith), total-more h n)
]

module _ (d : ℕ) (g : Sequences) (records : List RecordValue) (lie : All (IsOnGenome g) records) where
  -- the block that starts at a position of a sequence
  abbrev pub at : ℕ → ℕ → Option (ℕ × (ℕ × List RecordValue))
  at s x = option_map (λ b. (x, b)) (block_at start_of stop_of d (on s records) x)

  -- where the block of a record starts
  abbrev pub own : RecordValue → ℕ
  own r = home start_of stop_of d (on r.seq records) r

  in-own : (r : RecordValue) → Contains records r → Mem r (on r.seq records)
  in-own r there = on-from r.seq records r (contains-mem records r there) refl

  own-block : (r : RecordValue) → Contains records r → at r.seq (own r) ≡ Some (own r, (block_stop start_of stop_of d (on r.seq records) (own r), members start_of stop_of d (on r.seq records) (own r)))
  own-block r there =
      let starts = home-starts start_of stop_of d (on r.seq records) r (in-own r there) in
      ap (option_map (λ (b : ℕ × List RecordValue). (own r, b))) (cond-true (is_block_start start_of stop_of d (on r.seq records) (own r)) _ _ starts)

  -- the number on its own sequence
  pub own-number : (r : RecordValue) → blocks_before d records r.seq (r.start + 1) ≡ length (values (at r.seq) (suc (own r)))
  own-number r = ap (λ n. blocks_before d records r.seq n) (add-one r.start)
      ∙ ap (λ (l : List (ℕ × (ℕ × List RecordValue))). length l) (blocks-home start_of stop_of d (on r.seq records) r)

  -- a block that starts later has a greater number
  later-block : (q r : RecordValue) → Contains records r → q.seq ≡ r.seq → own q < own r → block_number d g records q < block_number d g records r
  later-block q r there same low =
      let grow = values-grow (at r.seq) (suc (own q)) (own r) (suc (own r)) _ low (omega arith) (own-block r there) in
      let first : blocks_before d records q.seq (q.start + 1) ≡ length (values (at r.seq) (suc (own q))) = own-number q ∙ ap (λ s. length (values (at s) (suc (own q)))) same in
      let sums = ap (λ (s : ℕ). sum (map (λ seq. blocks_before d records seq (sequence_length g seq)) (range_with_len 0 s))) same in
      omega (arith, grow, first, own-number r, sums)

  -- and so has one on a later sequence
  later-sequence : (q r : RecordValue) → Contains records q → Contains records r → q.seq < r.seq → block_number d g records q < block_number d g records r
  later-sequence q r here there low =
      let h : ℕ → ℕ = λ seq. blocks_before d records seq (sequence_length g seq) in
      let is_placed = all-mem (IsOnGenome g) records lie q (contains-mem records q here) in
      let fits : q.start + 1 ≤ sequence_length g q.seq = omega (arith, is_placed.some, is_placed.within.1) in
      let within = values-rise (at q.seq) (q.start + 1) (sequence_length g q.seq) fits in
      let first = values-grow (at r.seq) 0 (own r) (suc (own r)) _ (omega arith) (omega arith) (own-block r there) in
      omega (arith, within, first, own-number r, total-more h q.seq, total-rise h (suc q.seq) r.seq (omega arith))

  pub same-home : (s x : ℕ) (r : RecordValue) → Contains (members start_of stop_of d (on s records) x) r → home start_of stop_of d (on s records) r ≡ x
  same-home s x r belongs =
      let facts = (member-means start_of stop_of d (on s records) x r).0 belongs in
      last-is (is_block_start start_of stop_of d (on s records)) r.start x facts.2 facts.1 (λ k above below. false_from_ne_true _ (facts.3 k above below))

  home-belongs : (r : RecordValue) → Contains records r → Contains (members start_of stop_of d (on r.seq records) (own r)) r
  home-belongs r there =
      let m = in-own r there in
      (member-means start_of stop_of d (on r.seq records) (own r) r).1 (
        mem-contains (on r.seq records) r m,
        home-starts start_of stop_of d (on r.seq records) r m,
        home-le start_of stop_of d (on r.seq records) r,
        λ k above below passes. both_ways _ (home-last start_of stop_of d (on r.seq records) r k above below) passes,
      )

  pub number-means : (q r : RecordValue) → Contains records q → Contains records r
      → (block_number d g records q ≡ block_number d g records r) ↔ ((q.seq ≡ r.seq) × ((x : ℕ) × BelongsTo d (on r.seq records) x q × BelongsTo d (on r.seq records) x r))
  number-means q r here there = (
    λ same. elim (cases_lt q.seq r.seq) [
      | inl low ↦ absurd (omega (arith, same, later-sequence q r here there low))
      | inr high ↦ elim (cases_lt r.seq q.seq) [
        | inl below ↦ absurd (omega (arith, same, later-sequence r q there here below))
        | inr above ↦
            let seq : q.seq ≡ r.seq = omega arith in
            elim (cases_lt (own q) (own r)) [
              | inl before ↦ absurd (omega (arith, same, later-block q r there seq before))
              | inr past ↦ elim (cases_lt (own r) (own q)) [
                | inl after ↦ absurd (omega (arith, same, later-block r q here (sym seq) after))
                | inr at_most ↦
                    let one : own q ≡ own r = omega arith in
                    let first : Contains (members start_of stop_of d (on r.seq records) (own r)) q
                    = subst (λ x. Contains (members start_of stop_of d (on r.seq records) x) q) one (subst (λ s. Contains (members start_of stop_of d (on s records) (own q)) q) seq (home-belongs q here)) in
                    (seq, (own r, first, home-belongs r there))
              ]
            ]
      ]
    ],
    λ both.
        let first : own q ≡ both.1.0 = ap (λ s. home start_of stop_of d (on s records) q) both.0 ∙ same-home r.seq both.1.0 q both.1.1 in
        let second : own r ≡ both.1.0 = same-home r.seq both.1.0 r both.1.2 in
        let on_own : blocks_before d records q.seq (q.start + 1) ≡ blocks_before d records r.seq (r.start + 1)
        = own-number q ∙ ap (λ s. length (values (at s) (suc (own q)))) both.0 ∙ ap (λ x. length (values (at r.seq) (suc x))) (first ∙ sym second) ∙ sym (own-number r) in
        omega (arith, on_own, ap (λ (s : ℕ). sum (map (λ seq. blocks_before d records seq (sequence_length g seq)) (range_with_len 0 s))) both.0),
  )
