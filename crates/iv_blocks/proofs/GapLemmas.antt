-- The gaps of blocks at distance 0 are the runs on which a depth is 0.
use Rattle.std.proofs.Common.{◌≡◌, ◌≢◌, ℕ, zero, suc, ◌+◌, ◌<◌, ◌≤◌, ◌⊎◌, inl, inr, true, false, nat_lt, List, ◌++◌, filter_map, Option, Some, None, refl, sym, ◌∙◌, ap, arith, append-nil}
use Rattle.std.specs.List.{range_with_len, cons_option}
use Rattle.std.specs.Option.{option_map}
use Rattle.std.proofs.lemmas.Bool.{cases_lt, cases_eq, cases_Bool, lt-ltb, le-ltb, both_ways}
use Rattle.iv_lines.specs.RecordValue.{RecordValue}
use Rattle.iv_cover.specs.Blocks.{is_block_start, block_stop, block_at, start_of, stop_of}
use Rattle.iv_cover.specs.Runs.{Run, empty_runs}
use Rattle.iv_lines.specs.declared.interval.Interval.{Interval}
use Rattle.iv_cover.proofs.BlockLemmas.{covered-in_block}
use Rattle.iv_cover.proofs.Cover.{Free, Covered, Lasting, IsBlock, cases_covered, block_at_start, block-test, block_at-some, block_at-none, block_unique, none_within}
use Rattle.iv_cover.proofs.EmptyLemmas.{empty_runs-none, empty_runs-run, empty_runs-skip}
use Rattle.iv_lines.proofs.ListLemmas.{Mem}
use Rattle.iv_blocks.specs.Inside.BlockCursor.{gap_between, gaps_between}

-- positions of value 0, up to one of another value or the end, are a gap
pub runs-gap : (f : ℕ → ℕ) (from mid to : ℕ) → from ≤ mid → mid ≤ to → ((q : ℕ) → from ≤ q → q < mid → f q ≡ 0) → (mid < to → 0 ≢ f mid)
    → empty_runs f from to ≡ gap_between from mid ++ empty_runs f mid to
runs-gap f from mid to low high zeros ends = go (cases_lt from mid)
  where
    go : (from < mid) ⊎ (mid ≤ from) → empty_runs f from to ≡ gap_between from mid ++ empty_runs f mid to
    go (inl some) = let some_test : nat_lt from mid ≡ true = lt-ltb from mid some in rw some_test (empty_runs-run f from mid to some high zeros ends)
    go (inr none) =
        let same : from ≡ mid = omega arith in
        let none_test : nat_lt mid mid ≡ false = le-ltb mid mid (omega arith) in
        rw (same, none_test) refl

module _ (G : List RecordValue) (f : ℕ → ℕ) (s to : ℕ) (lasting : Lasting start_of stop_of 0 G) (within : (q : RecordValue) → Mem q G → q.stop ≤ to)
    (some : (p : ℕ) → Covered start_of stop_of 0 G (suc p) → f p ≢ 0) (none : (p : ℕ) → Free start_of stop_of 0 G (suc p) → f p ≡ 0) where
  -- where the block of a position is, if one starts there
  abbrev pub is_placed : ℕ → Option Interval
  is_placed x = option_map (λ (b : ℕ × List RecordValue). record { seq = s; start = x; stop = b.0 }) (block_at start_of stop_of 0 G x)

  -- the blocks from position p on, if all others stop at `from` or before
  pub gaps-are : (k p from : ℕ) → p + k ≡ to → from ≤ to → ((q : ℕ) → from ≤ q → q < p → f q ≡ 0)
      → ((q : ℕ) → p ≤ q → q < from → is_block_start start_of stop_of 0 G q ≡ false)
      → ((x t : ℕ) → x < p → IsBlock start_of stop_of 0 G x t → t ≤ from)
      → gaps_between true from to (filter_map is_placed (range_with_len p k)) ≡ empty_runs f from to
  gaps-are zero p from end high zeros inside before =
      sym (runs-gap f from to to high (omega arith) (λ q low below. zeros q low (omega (arith, end))) (λ never. absurd (omega arith))
      ∙ ap (λ (l : List Run). gap_between from to ++ l) (empty_runs-none f to to (omega arith))
      ∙ append-nil (gap_between from to))
  gaps-are (suc k) p from end high zeros inside before =
      go (λ from' high' zeros' inside' before'. gaps-are k (p + 1) from' (omega (arith, end)) high' zeros' inside' before') (cases_Bool (is_block_start start_of stop_of 0 G p))
    where
      go : ((from' : ℕ) → from' ≤ to → ((q : ℕ) → from' ≤ q → q < p + 1 → f q ≡ 0)
          → ((q : ℕ) → p + 1 ≤ q → q < from' → is_block_start start_of stop_of 0 G q ≡ false)
          → ((x t : ℕ) → x < p + 1 → IsBlock start_of stop_of 0 G x t → t ≤ from')
          → gaps_between true from' to (filter_map is_placed (range_with_len (p + 1) k)) ≡ empty_runs f from' to)
          → (is_block_start start_of stop_of 0 G p ≡ true) ⊎ (is_block_start start_of stop_of 0 G p ≡ false)
          → gaps_between true from to (filter_map is_placed (range_with_len p (suc k))) ≡ empty_runs f from to
      go rest (inl e) =
          let t : ℕ = block_stop start_of stop_of 0 G p in
          let b = block_at_start start_of stop_of 0 G p lasting e in
          let at : is_placed p ≡ Some (record { seq = s; start = p; stop = t })
          = ap (option_map (λ (b : ℕ × List RecordValue). record { seq = s; start = p; stop = b.0 })) (block_at-some start_of stop_of 0 G p t lasting b) in
          let low : from ≤ p = elim (cases_lt p from) [
            | inl inner ↦ absurd (both_ways _ (inside p (omega arith) inner) e)
            | inr past ↦ past
          ] in
          let last = b.covered t b.long (omega arith) in
          let fits : t ≤ to = omega (arith, last.3, within last.0 last.1) in
          let long : p < t = b.long in
          let full : (q : ℕ) → p ≤ q → q < t → f q ≢ 0 = λ q above below. some q (b.covered (suc q) (omega arith) (omega arith)) in
          let skip : empty_runs f from to ≡ gap_between from p ++ empty_runs f t to
          = runs-gap f from p to low (omega arith) (λ q a c. zeros q a c) (λ c is. full p (omega arith) (omega arith) (sym is))
          ∙ ap (λ (l : List Run). gap_between from p ++ l) (empty_runs-skip f p t to (omega arith) fits full) in
          ap (λ o. gaps_between true from to (cons_option o (filter_map is_placed (range_with_len (p + 1) k)))) at
          ∙ ap (λ (l : List Run). gap_between from p ++ l)
          (rest t fits (λ q a c. absurd (omega arith)) (λ q a c. none_within start_of stop_of 0 G p t b q (omega arith) (omega arith))
          (λ x t' below other. elim (cases_eq x p) [
            | inl is ↦ let same : IsBlock start_of stop_of 0 G p t' = rw is at other in omega (arith, block_unique start_of stop_of 0 G p t t' b same)
            | inr ne ↦ omega (arith, before x t' (omega arith) other)
          ]))
          ∙ sym skip
      go rest (inr e) =
          let at : is_placed p ≡ None
          = ap (option_map (λ (b : ℕ × List RecordValue). record { seq = s; start = p; stop = b.0 })) (block_at-none start_of stop_of 0 G p e) in
          let here : from ≤ p → f p ≡ 0 = λ low. elim (cases_covered start_of stop_of 0 G (suc p)) [
            | inl covered ↦
                let c = covered-in_block start_of stop_of 0 G (suc p) lasting covered in
                elim (cases_eq c.0 p) [
                  | inl is ↦ absurd (both_ways _ e (rw is at (block-test start_of stop_of 0 G c.0 c.1 c.2)))
                  | inr ne ↦ absurd (omega (arith, before c.0 c.1 (omega (arith, c.3)) c.2, c.4))
                ]
            | inr free ↦ none p free
          ] in
          ap (λ o. gaps_between true from to (cons_option o (filter_map is_placed (range_with_len (p + 1) k)))) at
          ∙ rest from high
          (λ q a c. elim (cases_eq q p) [ inl is ↦ ap f is ∙ here (omega arith) | inr ne ↦ zeros q a (omega arith) ])
          (λ q a c. inside q (omega arith) c)
          (λ x t below other. elim (cases_eq x p) [
            | inl is ↦ absurd (both_ways _ e (rw is at (block-test start_of stop_of 0 G x t other)))
            | inr ne ↦ before x t (omega arith) other
          ])

  -- all gaps from 0 on
  pub all_gaps-are : gaps_between true 0 to (filter_map is_placed (range_with_len 0 to)) ≡ empty_runs f 0 to
  all_gaps-are = gaps-are to 0 0 (omega arith) (omega arith) (λ q a c. absurd (omega arith)) (λ q a c. absurd (omega arith)) (λ x t below other. absurd (omega arith))
