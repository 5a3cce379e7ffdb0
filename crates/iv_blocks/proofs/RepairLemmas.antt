-- What the blocks of a group are after a repair, over plain functions.
use Rattle.std.proofs.Common.{◌≡◌, ◌⊎◌, inl, inr, ℕ, ◌+◌, suc, ◌-◌, ◌<◌, ◌≤◌, false, if◌then◌else◌, ◌==◌, ◌&&◌, List, length, filter, Option, Some, None, sym, ap, subst, ◌∙◌, arith, eq-eqb, ne_eqb}
use Rattle.std.specs.Option.{option_map, option_or}
use Rattle.std.proofs.lemmas.Bool.{cond-true, cond-false, cases_Bool, cases_lt, cases_eq, both_ways}
use Rattle.std.proofs.lemmas.Option.{none-some, same_Some}
use Rattle.iv_lines.specs.RecordValue.{RecordValue}
use Rattle.iv_cover.specs.Blocks.{is_block_start, block_stop, block_at, start_of, stop_of}
use Rattle.iv_lines.proofs.ListLemmas.{Mem, mem-filter, filter-weaker, same_tests}
use Rattle.iv_cover.proofs.Groups.{HasOneMore}
use Rattle.iv_cover.proofs.Cover.{Covered, StartsAt, start_from, start-test, Lasting, lasting-fewer, IsBlock, IsRun, Free, run-alone, run-first, run-all, covered-more, block_unique, block_at_start, block-test, block-stop, block_at-some, block_at-none, no_start-test, none_within, stops_within, same_outside, removed_within, starts_in, starts_in-true, starts_in-from, home, home-starts, home-le, home-last, home-in, stops, free-past_last, free-none}
use Rattle.iv_cover.specs.declared.column.ColumnSummary.{ColumnSummary}
use Rattle.iv_blocks.specs.KeptBlocks.{Kept, kept_block, within_block}
use Rattle.iv_blocks.specs.Inside.Lookups.{IsLastBlock}
use Rattle.iv_blocks.specs.Inside.Repairs.{JoinsOne, JoinsNone, JoinsBefore, JoinsAfter, count_from}
use Rattle.iv_blocks.proofs.JoinLemmas.{count-records, or-none}

module _ (d : ℕ) (name : List ℕ) (summaries : List ColumnSummary) where
  -- what is to be kept of the block of the records that starts at x, if there is one
  abbrev pub shown : List RecordValue → ℕ → Option Kept
  shown G x = option_map (kept_block name summaries) (block_at start_of stop_of d G x)

  pub shown-some : (G : List RecordValue) (x s : ℕ) → Lasting start_of stop_of d G → IsBlock start_of stop_of d G x s → shown G x ≡ Some (kept_block name summaries (s, filter (starts_in start_of stop_of d x s) G))
  shown-some G x s lasting block = ap (option_map (kept_block name summaries)) (block_at-some start_of stop_of d G x s lasting block)

  pub shown-none : (G : List RecordValue) (x : ℕ) → is_block_start start_of stop_of d G x ≡ false → shown G x ≡ None
  shown-none G x e = ap (option_map (kept_block name summaries)) (block_at-none start_of stop_of d G x e)

  -- what is kept is kept of a block
  pub shown-is : (G : List RecordValue) (x : ℕ) (b : Kept) → Lasting start_of stop_of d G → shown G x ≡ Some b → IsBlock start_of stop_of d G x b.stop
  shown-is G x b lasting e = elim (cases_Bool (is_block_start start_of stop_of d G x)) [
    | inl starts ↦
        let block = block_at_start start_of stop_of d G x lasting starts in
        let stop : ℕ = block_stop start_of stop_of d G x in
        let same : kept_block name summaries (stop, filter (starts_in start_of stop_of d x stop) G) ≡ b = same_Some _ b (sym (shown-some G x stop lasting block) ∙ e) in
        subst (λ s. IsBlock start_of stop_of d G x s) (ap (λ (v : Kept). v.stop) same) block
    | inr none ↦ absurd (none-some b (sym (shown-none G x none) ∙ e))
  ]

  -- if nothing is kept no block starts
  pub none-shown_is : (G : List RecordValue) (x : ℕ) → Lasting start_of stop_of d G → shown G x ≡ None → is_block_start start_of stop_of d G x ≡ false
  none-shown_is G x lasting e = elim (cases_Bool (is_block_start start_of stop_of d G x)) [
    | inl starts ↦
        let stop : ℕ = block_stop start_of stop_of d G x in
        absurd (none-some _ (sym e ∙ shown-some G x stop lasting (block_at_start start_of stop_of d G x lasting starts)))
    | inr none ↦ none
  ]

  -- H has r, and the group without r is G
  module _ (G H : List RecordValue) (r : RecordValue) (more : HasOneMore G r H) (lasting : Lasting start_of stop_of d H) where
    lasting_G : Lasting start_of stop_of d G
    lasting_G = lasting-fewer start_of stop_of d G H r more lasting

    -- how many records there are in r's block
    pub home-count : (low to : ℕ) (records : List RecordValue) → IsBlock start_of stop_of d H low to → low ≤ r.start → r.start < to
        → within_block d H records r ≡ length (filter (λ q. (q.seq == r.seq) && starts_in start_of stop_of d low to q) records)
    home-count low to records block above below =
        ap (λ (h : ℕ). length (filter (λ q. (q.seq == r.seq) && starts_in start_of stop_of d h (block_stop start_of stop_of d H h) q) records)) (home-in start_of stop_of d H low to block r more.added above below)
        ∙ ap (λ (s : ℕ). length (filter (λ q. (q.seq == r.seq) && starts_in start_of stop_of d low s q) records)) (block-stop start_of stop_of d H low to lasting block)

    -- ---- r is taken away, and another record from its start on reaches as far

    module _ (q : RecordValue) (m : Mem q G) (at : q.start ≡ r.start) (as_far : r.stop ≤ q.stop) where
      covered-less : (y : ℕ) → Covered start_of stop_of d H y → Covered start_of stop_of d G y
      covered-less y covered = elim (more.cases covered.0 covered.1) [
        | inl is ↦ (q, m, omega (arith, at, covered.2, ap start_of is), omega (arith, as_far, covered.3, ap stop_of is))
        | inr old ↦ (covered.0, old, covered.2, covered.3)
      ]

      free-less : (y : ℕ) → Free start_of stop_of d H y → Free start_of stop_of d G y
      free-less y free p n before = free p (more.old p n) before

      free-more : (y : ℕ) → Free start_of stop_of d G y → Free start_of stop_of d H y
      free-more y free p n before = elim (more.cases p n) [
        | inl is ↦ let far = free q m (omega (arith, at, ap start_of is, before)) in omega (arith, far, as_far, ap stop_of is)
        | inr old ↦ free p old before
      ]

      starts-less : (x : ℕ) → StartsAt start_of stop_of d H x → StartsAt start_of stop_of d G x
      starts-less x starts = elim (more.cases starts.0 starts.1) [
        | inl is ↦ (q, m, at ∙ ap start_of is ∙ starts.2)
        | inr old ↦ (starts.0, old, starts.2)
      ]

      block-less : (x s : ℕ) → IsBlock start_of stop_of d H x s → IsBlock start_of stop_of d G x s
      block-less x s b = record {
        starts = starts-less x b.starts;
        free = free-less x b.free;
        long = b.long;
        covered = λ y above below. covered-less y (b.covered y above below);
        ends = free-less (suc (s + d)) b.ends;
      }

      start-less : (x : ℕ) → is_block_start start_of stop_of d H x ≡ is_block_start start_of stop_of d G x
      start-less x = same_tests _ _
          (λ e. let both = start_from start_of stop_of d H x e in start-test start_of stop_of d G x (starts-less x both.0) (free-less x both.1))
          (λ e. let both = start_from start_of stop_of d G x e in
          start-test start_of stop_of d H x (both.0.0, more.old both.0.0 both.0.1, both.0.2) (free-more x both.1))

      -- if nothing is kept of a block's records, what is kept stays as it is
      pub shown-less : ((s : ℕ) (a b : List RecordValue) → kept_block name summaries (s, a) ≡ kept_block name summaries (s, b)) → (x : ℕ) → shown H x ≡ shown G x
      shown-less plain x = elim (cases_Bool (is_block_start start_of stop_of d H x)) [
        | inl starts ↦
            let block = block_at_start start_of stop_of d H x lasting starts in
            let stop : ℕ = block_stop start_of stop_of d H x in
            shown-some H x stop lasting block
            ∙ ap (λ (k : Kept). Some k) (plain stop (filter (starts_in start_of stop_of d x stop) H) (filter (starts_in start_of stop_of d x stop) G))
            ∙ sym (shown-some G x stop lasting_G (block-less x stop block))
        | inr none ↦ shown-none H x none ∙ sym (shown-none G x (sym (start-less x) ∙ none))
      ]

    -- ---- r is taken away

    module _ (old : ℕ → Option Kept) (right : (x : ℕ) → old x ≡ shown H x) where
      pub found-some : ((x : ℕ) → x ≤ r.start → old x ≡ None) → ⊥
      found-some none =
          let h : ℕ = home start_of stop_of d H r in
          both_ways _ (none-shown_is H h lasting (sym (right h) ∙ none h (home-le start_of stop_of d H r))) (home-starts start_of stop_of d H r more.added)

      pub found-block : (b : ℕ × ℕ) → IsLastBlock old r.start b → IsBlock start_of stop_of d H b.0 b.1
      found-block b entry = shown-is H b.0 (record { stop = b.1; results = entry.results }) lasting (sym (right b.0) ∙ entry.is)

      -- the block of r is found from r's start
      found-home : (b : ℕ × ℕ) → IsLastBlock old r.start b → home start_of stop_of d H r ≡ b.0
      found-home b entry =
          let h : ℕ = home start_of stop_of d H r in
          elim (cases_lt b.0 h) [
            | inl later ↦
                let none = none-shown_is H h lasting (sym (right h) ∙ entry.none h later (home-le start_of stop_of d H r)) in
                absurd (both_ways _ none (home-starts start_of stop_of d H r more.added))
            | inr not_later ↦ elim (cases_lt h b.0) [
              | inl earlier ↦ absurd (both_ways _ (home-last start_of stop_of d H r b.0 earlier entry.within) (block-test start_of stop_of d H b.0 b.1 (found-block b entry)))
              | inr same ↦ omega arith
            ]
          ]

      pub found-ends : (b : ℕ × ℕ) → IsLastBlock old r.start b → r.stop ≤ b.1
      found-ends b entry = omega (arith, stops start_of stop_of d H b.0 r more.added (found-home b entry), block-stop start_of stop_of d H b.0 b.1 lasting (found-block b entry))

      -- the blocks without that one, and over them those of its other members alone
      pub removed-right : (b : ℕ × ℕ) (mid new : ℕ → Option Kept) → IsLastBlock old r.start b
          → ((x : ℕ) → mid x ≡ (if x == b.0 then None else old x))
          → ((x : ℕ) → new x ≡ option_or (shown (filter (starts_in start_of stop_of d b.0 b.1) G) x) (mid x))
          → (x : ℕ) → new x ≡ shown G x
      removed-right b mid new entry taken put x = elim (cases_lt x b.0) [
        | inl before ↦ outside (inl before) (λ q m at. omega (arith, (in-part q m).0))
        | inr from ↦ elim (cases_lt (b.1 + d) x) [
          | inl past ↦ outside (inr past) (λ q m at. omega (arith, (in-part q m).1))
          | inr inside ↦
              put x ∙ ap (option_or (shown part x)) (gone from inside) ∙ or-none (shown part x)
              ∙ ap (option_map (kept_block name summaries)) (sym (removed_within start_of stop_of d G H r b.0 b.1 x more lasting block from inside))
        ]
      ]
        where
          block : IsBlock start_of stop_of d H b.0 b.1
          block = found-block b entry

          part : List RecordValue
          part = filter (starts_in start_of stop_of d b.0 b.1) G

          in-part : (q : RecordValue) → Mem q part → (b.0 ≤ q.start) × (q.start < b.1)
          in-part q m = starts_in-true start_of stop_of d b.0 b.1 q (mem-filter (starts_in start_of stop_of d b.0 b.1) G q m).1

          -- outside the block nothing is inserted, and what was there is right
          outside : (x < b.0) ⊎ (b.1 + d < x) → ((q : RecordValue) → Mem q part → q.start ≡ x → ⊥) → new x ≡ shown G x
          outside out none =
              put x
              ∙ ap (λ (o : Option Kept). option_or o (mid x)) (shown-none part x (no_start-test start_of stop_of d part x none))
              ∙ taken x
              ∙ cond-false _ _ _ (ne_eqb x b.0 (λ at. elim out [ inl before ↦ omega arith | inr past ↦ omega (arith, block.long) ]))
              ∙ right x
              ∙ ap (option_map (kept_block name summaries)) (same_outside start_of stop_of d G H r b.0 b.1 x more lasting block entry.within
              (omega (arith, found-ends b entry, lasting r more.added)) out)

          -- within it nothing is left
          gone : b.0 ≤ x → x ≤ b.1 + d → mid x ≡ None
          gone from inside = elim (cases_eq x b.0) [
            | inl at ↦ taken x ∙ cond-true _ _ _ (eq-eqb x b.0 at)
            | inr ne ↦ taken x ∙ cond-false _ _ _ (ne_eqb x b.0 ne) ∙ right x ∙ shown-none H x (none_within start_of stop_of d H b.0 b.1 block x (omega arith) inside)
          ]

    -- ---- r is added

    -- [low, high] is r, joined with the block before it if that reaches it; mid are the blocks without that one
    pub record IsBegun (low high : ℕ) (mid : ℕ → Option Kept) : Type 0 where
      pub run : IsRun start_of stop_of d G r H low high
      pub gap : (x : ℕ) → low ≤ x → x < r.start → mid x ≡ None
      pub outside : (x : ℕ) → (x < low) ⊎ (r.start < x) → mid x ≡ shown G x
      pub left : (x : ℕ) (b : Kept) → mid x ≡ Some b → shown G x ≡ Some b
      pub closed : (x s : ℕ) → IsBlock start_of stop_of d G x s → low ≤ x → (s ≤ high) ⊎ ((r.start ≤ x) × (mid x ≡ shown G x))

    module _ (old : ℕ → Option Kept) (right : (x : ℕ) → old x ≡ shown G x) where
      begun-one : (mid : ℕ → Option Kept) (joined : ℕ × ℕ) → JoinsOne d old mid r.start r.stop joined → IsBegun joined.0 joined.1 mid
      begun-one mid joined one =
          let block : IsBlock start_of stop_of d G joined.0 one.stops = shown-is G joined.0 (record { stop = one.stops; results = one.last.results }) lasting_G (sym (right joined.0) ∙ one.last.is) in
          let others : (x : ℕ) → (x ≡ joined.0 → ⊥) → mid x ≡ shown G x = λ x ne. one.taken x ∙ cond-false _ _ _ (ne_eqb x joined.0 ne) ∙ right x in
          record {
            run = subst (λ (n : ℕ). IsRun start_of stop_of d G r H joined.0 n) (sym one.high) (run-first start_of stop_of d G H r joined.0 one.stops more block one.last.within one.reaches);
            gap = λ x above below. elim (cases_eq x joined.0) [
              | inl at ↦ one.taken x ∙ cond-true _ _ _ (eq-eqb x joined.0 at)
              | inr ne ↦ one.taken x ∙ cond-false _ _ _ (ne_eqb x joined.0 ne) ∙ one.last.none x (omega arith) (omega arith)
            ];
            outside = λ x out. others x (λ at. elim out [ inl before ↦ omega arith | inr past ↦ omega (arith, one.last.within) ]);
            left = λ x b e. elim (cases_eq x joined.0) [
              | inl at ↦ absurd (none-some b (sym (one.taken x ∙ cond-true _ _ _ (eq-eqb x joined.0 at)) ∙ e))
              | inr ne ↦ sym (others x ne) ∙ e
            ];
            closed = λ x s b above. elim (cases_eq joined.0 x) [
              | inl at ↦ inl (omega (arith, one.high, block_unique start_of stop_of d G joined.0 one.stops s block (subst (λ n. IsBlock start_of stop_of d G n s) (sym at) b)))
              | inr ne ↦ elim (cases_lt x r.start) [
                | inl before ↦ absurd (both_ways _ (none-shown_is G x lasting_G (sym (right x) ∙ one.last.none x (omega arith) (omega arith))) (block-test start_of stop_of d G x s b))
                | inr from ↦ inr (from, others x (λ at. ne (sym at)))
              ]
            ];
          }

      begun-none : (mid : ℕ → Option Kept) (joined : ℕ × ℕ) → JoinsNone d old mid r.start r.stop joined → IsBegun r.start r.stop mid
      begun-none mid joined none = record {
        run = run-alone start_of stop_of d G H r more lasting free;
        gap = λ x above below. absurd (omega arith);
        outside = λ x out. none.same x ∙ right x;
        left = λ x b e. sym (none.same x ∙ right x) ∙ e;
        closed = λ x s b above. inr (above, none.same x ∙ right x);
      }
        where
          free : Free start_of stop_of d G r.start
          free = elim none.apart [
            | inl empty ↦ free-none start_of stop_of d G r.start (λ x within. none-shown_is G x lasting_G (sym (right x) ∙ empty x within))
            | inr found ↦
                let b = found.0 in
                let entry = found.1 in
                free-past_last start_of stop_of d G b.0 b.1 r.start lasting_G
                (shown-is G b.0 (record { stop = b.1; results = entry.results }) lasting_G (sym (right b.0) ∙ entry.is))
                (λ x after within. none-shown_is G x lasting_G (sym (right x) ∙ entry.none x after within)) found.2
          ]

      pub begun : (mid : ℕ → Option Kept) (joined : ℕ × ℕ) → JoinsBefore d old mid r.start r.stop joined → IsBegun joined.0 joined.1 mid
      begun mid joined (inl one) = begun-one mid joined one
      begun mid joined (inr none) = subst (λ (j : ℕ × ℕ). IsBegun j.0 j.1 mid) (sym none.joined_is) (begun-none mid joined none)

    module _ (low high to : ℕ) (mid next : ℕ → Option Kept) (state : IsBegun low high mid) (joins : JoinsAfter d mid next r.start high to) where
      run_to : IsRun start_of stop_of d G r H low to
      run_to =
          let run = state.run in
          record {
            starts = run.starts;
            free = run.free;
            after = run.after;
            holds = omega (arith, run.holds, joins.no_less);
            long = omega (arith, run.long, joins.no_less);
            covered = λ y above below. elim (cases_lt (high + d) y) [
              | inl beyond ↦
                  let found = joins.reached y beyond below in
                  let block : IsBlock start_of stop_of d G found.0 found.1.stop = shown-is G found.0 found.1 lasting_G (state.left found.0 found.1 found.2) in
                  covered-more start_of stop_of d G H r y more (block.covered y found.3 found.4)
              | inr inside ↦ run.covered y above inside
            ];
          }

      -- what is joined is r's block
      pub added-block : IsBlock start_of stop_of d H low to
      added-block = run-all start_of stop_of d G H r low to more lasting run_to (λ x s b above below. elim (state.closed x s b above) [
        | inl short ↦ omega (arith, joins.no_less)
        | inr kept ↦ joins.within x (kept_block name summaries (s, filter (starts_in start_of stop_of d x s) G)) kept.0 below (kept.1 ∙ shown-some G x s lasting_G b)
      ])

      pub added-below : r.start < to
      added-below = omega (arith, run_to.holds, lasting r more.added)

      pub added-above : low ≤ r.start
      added-above = run_to.after

      pub added-right : (new : ℕ → Option Kept)
          → ((x : ℕ) → new x ≡ (if x == low then Some (kept_block name summaries (to, filter (starts_in start_of stop_of d low to) H)) else next x))
          → (x : ℕ) → new x ≡ shown H x
      added-right new put x = put x ∙ elim (cases_eq x low) [
        | inl at ↦ cond-true _ _ _ (eq-eqb x low at) ∙ sym (shown-some H low to lasting added-block) ∙ ap (shown H) (sym at)
        | inr ne ↦ cond-false _ _ _ (ne_eqb x low ne) ∙ elim (cases_lt x low) [
          | inl before ↦ joins.others x (inl (omega (arith, added-above))) ∙ state.outside x (inl before) ∙ sym (same (inl before))
          | inr above ↦ elim (cases_lt (to + d) x) [
            | inl past ↦ joins.others x (inr past) ∙ state.outside x (inr (omega (arith, added-below))) ∙ sym (same (inr past))
            | inr inside ↦ elim (cases_lt x r.start) [
              | inl early ↦ joins.others x (inl early) ∙ state.gap x above early
              | inr late ↦ joins.clear x late inside
            ] ∙ sym (shown-none H x (none_within start_of stop_of d H low to added-block x (omega arith) inside))
          ]
        ]
      ]
        where
          same : (x < low) ⊎ (to + d < x) → shown H x ≡ shown G x
          same out = ap (option_map (kept_block name summaries)) (same_outside start_of stop_of d G H r low to x more lasting added-block added-above (omega (arith, added-below)) out)

      -- each block that was joined has a record of its own
      pub added-count : count_from mid r.start (to + d + 1 - r.start) ≤ length (filter (starts_in start_of stop_of d low to) H)
      added-count =
          let n : ℕ = to + d + 1 - r.start in
          let few = count-records start_of stop_of d mid H r.start n (λ x b e.
          let block = shown-is G x b lasting_G (state.left x b e) in
          let its = block.starts in
          (its.0, more.old its.0 its.1, its.2)) in
          let fewer = filter-weaker (starts_in start_of stop_of d r.start (r.start + n)) (starts_in start_of stop_of d low to) H (λ q m e.
          let both = starts_in-true start_of stop_of d r.start (r.start + n) q e in
          starts_in-from start_of stop_of d low to q (omega (arith, both.0, added-above))
          (omega (arith, lasting q m, stops_within start_of stop_of d H low to added-block q m (omega (arith, both.1, added-below))))) in
          omega (arith, few, fewer)
