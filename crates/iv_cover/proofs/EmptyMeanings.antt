-- What the runs of value 0 mean: they are the maximal intervals on which the function is 0.
use Rattle.std.proofs.Common.{◌≡◌, ℕ, ◌<◌, ◌≤◌, ◌==◌, List, Contains, sym, ◌∙◌, subst, arith, inl, inr, eqb-true, eq-eqb, filter}
use Rattle.std.proofs.lemmas.Bool.{cases_lt}
use Rattle.iv_cover.specs.Runs.{Run, Tiles, runs, empty_runs}
use Rattle.iv_cover.proofs.RunsLemmas.{Tiles-runs, runs-none}
use Rattle.iv_lines.proofs.ListLemmas.{Mem, contains-mem, mem-contains, mem-filter, mem-filter_from}
use Rattle.iv_cover.proofs.TilesLemmas.{tiles-position, tiles-run, tiles-bounds, tiles-apart, tiles-one}

module _ (f : ℕ → ℕ) (from to : ℕ) where
  -- a run of value 0 is one of the runs that tile the positions
  tiled : (run : Run) → Contains (empty_runs f from to) run → Tiles f from to (runs f from to) × Mem run (runs f from to) × (run.value ≡ 0)
  tiled run there = elim (cases_lt to from) [
    | inl past ↦ absurd (subst (λ (l : List Run). Mem run (filter (λ (r : Run). r.value == 0) l)) (runs-none f from to (omega arith)) (contains-mem (empty_runs f from to) run there))
    | inr some ↦
        let both = mem-filter (λ (r : Run). r.value == 0) (runs f from to) run (contains-mem (empty_runs f from to) run there) in
        (Tiles-runs f from to some, both.0, eqb-true _ _ both.1)
  ]

  pub empty-bare : (run : Run) → Contains (empty_runs f from to) run
      → (from ≤ run.start) × (run.start < run.stop) × (run.stop ≤ to) × ((p : ℕ) → run.start ≤ p → p < run.stop → f p ≡ 0)
  empty-bare run there =
      let t = tiled run there in
      let bounds = tiles-bounds f from to (runs f from to) run t.0 t.1 in
      (bounds.0, bounds.1, bounds.2, λ p low high. tiles-run f from to (runs f from to) run t.0 t.1 p low high ∙ t.2)

  pub empty-all : (p : ℕ) → from ≤ p → p < to → f p ≡ 0 → (run : Run) × Contains (empty_runs f from to) run × (run.start ≤ p) × (p < run.stop)
  empty-all p low high none =
      let found = tiles-position f from to p (runs f from to) (Tiles-runs f from to (omega arith)) low high in
      let run = mem-filter_from (λ (r : Run). r.value == 0) (runs f from to) found.0 found.1 (eq-eqb found.0.value 0 (sym found.4 ∙ none)) in
      (found.0, mem-contains (empty_runs f from to) found.0 run, found.2, found.3)

  pub empty-apart : (a b : Run) → Contains (empty_runs f from to) a → Contains (empty_runs f from to) b → a.start < b.start → a.stop < b.start
  empty-apart a b here there low =
      let first = tiled a here in
      let second = tiled b there in
      tiles-apart f from to (runs f from to) a b first.0 first.1 second.1 (first.2 ∙ sym second.2) low

  pub empty-once : (a b : Run) → Contains (empty_runs f from to) a → Contains (empty_runs f from to) b → a.start ≡ b.start → a ≡ b
  empty-once a b here there same =
      let first = tiled a here in
      let second = tiled b there in
      tiles-one f from to (runs f from to) a b first.0 first.1 second.1 same
