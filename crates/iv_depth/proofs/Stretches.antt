-- The rows of positions of one depth, and of those that follow.
use Rattle.std.proofs.Common.{◌≡◌, ◌≢◌, ℕ, zero, suc, ◌+◌, ◌-◌, ◌<◌, ◌≤◌, List, [], ◌∷◌, ◌++◌, ◌⊎◌, refl, sym, ◌∙◌, ap, inl, inr, arith, append-nil, filter, nat_lt, true}
use Rattle.std.specs.List.{flat_map, range_with_len}
use Rattle.std.proofs.lemmas.List.Concat.{flat_map-append}
use Rattle.std.proofs.lemmas.Bool.{cases_lt, lt-ltb}
use Rattle.std.proofs.lemmas.List.Elements.{filter-append}
use Rattle.iv_cover.specs.Runs.{Run, runs}
use Rattle.iv_cover.proofs.RunsLemmas.{runs-run, runs-none}
use Rattle.std.specs.Prelude.{ℤ}
use Rattle.iv_depth.specs.Inside.DepthChanges.{IsChange}
use Rattle.iv_depth.specs.DepthRows.{run_row, position_row, covered_runs, rows_between}
use Rattle.iv_depth.specs.declared.depth_rows.DepthOutput.{DepthOutput}
use Rattle.iv_depth.specs.declared.depth_rows.DepthOutput.TheVariants.{Covered, All, EachPosition}

-- the runs of one value are one run
pub runs-one : (value from to : ℕ) → from < to → runs (λ _. value) from to ≡ record { start = from; stop = to; value = value } ∷ []
runs-one value from to low =
    runs-run (λ _. value) from to to value low (omega arith) (λ q l h. refl) (λ h. absurd (omega arith))
    ∙ ap (λ (rest : List Run). record { start = from; stop = to; value = value } ∷ rest) (runs-none (λ _. value) to to (omega arith))

-- positions of one value up to where the value is another one, and the others
pub runs-split : (f : ℕ → ℕ) (value from mid to : ℕ) → from ≤ mid → mid ≤ to
    → ((q : ℕ) → from ≤ q → q < mid → f q ≡ value) → (from < mid → mid < to → value ≢ f mid)
    → runs f from to ≡ runs (λ _. value) from mid ++ runs f mid to
runs-split f value from mid to low high same ends = go (cases_lt from mid)
  where
    go : (from < mid) ⊎ (mid ≤ from) → runs f from to ≡ runs (λ _. value) from mid ++ runs f mid to
    go (inl some) = rw (runs-one value from mid some) (runs-run f from mid to value some high same (ends some))
    go (inr none) =
        let e : from ≡ mid = omega arith in
        rw (runs-none (λ _. value) from mid none, e) refl

range-split : (p d n : ℕ) → range_with_len p (d + n) ≡ range_with_len p d ++ range_with_len (p + d) n
range-split p zero n = let a : zero + n ≡ n = omega arith in let b : p + zero ≡ p = omega arith in rw (a, b) refl
range-split p (suc d) n =
    let more : suc d + n ≡ suc (d + n) = omega arith in
    let on : (p + 1) + d ≡ p + suc d = omega arith in
    rw (more, ← on) (ap (λ (l : List ℕ). p ∷ l) (range-split (p + 1) d n))

-- texts of positions on which two functions agree
each-same : (feature : ℕ → ℕ → List ℕ) (f g : ℕ → ℕ) (p n : ℕ) → ((q : ℕ) → p ≤ q → q < p + n → f q ≡ g q)
    → flat_map (λ q. feature q (f q)) (range_with_len p n) ≡ flat_map (λ q. feature q (g q)) (range_with_len p n)
each-same feature f g p zero same = refl
each-same feature f g p (suc n) same =
    let here : f p ≡ g p = same p (omega arith) (omega arith) in
    rw (here, each-same feature f g (p + 1) n (λ q low high. same q (omega arith) (omega arith))) refl

pub each-split : (feature : ℕ → ℕ → List ℕ) (f : ℕ → ℕ) (value from mid to : ℕ) → from ≤ mid → mid ≤ to
    → ((q : ℕ) → from ≤ q → q < mid → f q ≡ value)
    → flat_map (λ q. feature q (f q)) (range_with_len from (to - from))
    ≡ flat_map (λ q. feature q value) (range_with_len from (mid - from)) ++ flat_map (λ q. feature q (f q)) (range_with_len mid (to - mid))
each-split feature f value from mid to low high same =
    let all : to - from ≡ (mid - from) + (to - mid) = omega arith in
    let end : from + (mid - from) ≡ mid = omega arith in
    let split : range_with_len from (to - from) ≡ range_with_len from (mid - from) ++ range_with_len mid (to - mid)
    = ap (range_with_len from) all ∙ range-split from (mid - from) (to - mid) ∙ ap (λ m. range_with_len from (mid - from) ++ range_with_len m (to - mid)) end in
    ap (flat_map (λ q. feature q (f q))) split
    ∙ flat_map-append (λ q. feature q (f q)) (range_with_len from (mid - from)) (range_with_len mid (to - mid))
    ∙ ap (λ (l : List ℕ). l ++ flat_map (λ q. feature q (f q)) (range_with_len mid (to - mid)))
    (each-same feature f (λ _. value) from (mid - from) (λ q l h. same q l (omega (arith, end))))

-- one more position in front
pub each-next : (feature : ℕ → ℕ → List ℕ) (value from to : ℕ) → from < to
    → flat_map (λ q. feature q value) (range_with_len from (to - from)) ≡ feature from value ++ flat_map (λ q. feature q value) (range_with_len (from + 1) (to - (from + 1)))
each-next feature value from to low = let e : to - from ≡ suc (to - (from + 1)) = omega arith in rw e refl

pub each-none : (feature : ℕ → ℕ → List ℕ) (value from to : ℕ) → to ≤ from → flat_map (λ q. feature q value) (range_with_len from (to - from)) ≡ []
each-none feature value from to high = let e : to - from ≡ zero = omega arith in rw e refl

-- no positions, no rows
pub rows-none : (output : DepthOutput) (name : List ℕ) (f : ℕ → ℕ) (from to : ℕ) → to ≤ from → rows_between output name f from to ≡ []
rows-none Covered name f from to high = rw (runs-none f from to high) refl
rows-none All name f from to high = rw (runs-none f from to high) refl
rows-none EachPosition name f from to high = let e : to - from ≡ zero = omega arith in rw e refl

-- the step of a walk: f is value from `from` up to `mid`, and at `mid` the positions end or f has another value
pub rows-split : (output : DepthOutput) (name : List ℕ) (f : ℕ → ℕ) (value from mid to : ℕ) → from ≤ mid → mid ≤ to
    → ((q : ℕ) → from ≤ q → q < mid → f q ≡ value) → (from < mid → mid < to → value ≢ f mid)
    → rows_between output name f from to ≡ rows_between output name (λ _. value) from mid ++ rows_between output name f mid to
rows-split Covered name f value from mid to low high same ends =
    ap (λ (l : List Run). flat_map (run_row name) (filter (λ run. nat_lt 0 run.value) l)) (runs-split f value from mid to low high same ends)
    ∙ ap (flat_map (run_row name)) (filter-append (λ run. nat_lt 0 run.value) (runs (λ _. value) from mid) (runs f mid to))
    ∙ flat_map-append (run_row name) (covered_runs (λ _. value) from mid) (covered_runs f mid to)
rows-split All name f value from mid to low high same ends =
    ap (flat_map (run_row name)) (runs-split f value from mid to low high same ends)
    ∙ flat_map-append (run_row name) (runs (λ _. value) from mid) (runs f mid to)
rows-split EachPosition name f value from mid to low high same ends = each-split (position_row name) f value from mid to low high same

-- so it is at a change
pub rows-next : (output : DepthOutput) (name : List ℕ) (f : ℕ → ℕ) (start to long d depth : ℕ) (c : ℕ × ℤ) → IsChange f start long d c → to ≡ long → depth ≡ d
    → rows_between output name f start to ≡ rows_between output name (λ _. depth) start c.0 ++ rows_between output name f c.0 to
rows-next output name f start to long d depth c s same_end same =
    rw (same_end, same) (rows-split output name f d start c.0 long s.low s.high s.same (λ low _. s.other low))

-- the last step: f is value on all that is left
pub rows-end : (output : DepthOutput) (name : List ℕ) (f : ℕ → ℕ) (value from to : ℕ)
    → ((q : ℕ) → from ≤ q → f q ≡ value)
    → rows_between output name f from to ≡ rows_between output name (λ _. value) from to
rows-end output name f value from to same = go (cases_lt to from)
  where
    go : (to < from) ⊎ (from ≤ to) → rows_between output name f from to ≡ rows_between output name (λ _. value) from to
    go (inl none) = rows-none output name f from to (omega arith) ∙ sym (rows-none output name (λ _. value) from to (omega arith))
    go (inr some) =
        rows-split output name f value from to to some (omega arith) (λ q l h. same q l) (λ _ h. absurd (omega arith))
        ∙ ap (λ (l : List ℕ). rows_between output name (λ _. value) from to ++ l) (rows-none output name f to to (omega arith))
        ∙ append-nil (rows_between output name (λ _. value) from to)

module _ (name : List ℕ) (depth from to : ℕ) (low : from < to) where
  -- positions of depth 0 give no row of a covered run
  pub rows-bare : depth ≡ 0 → rows_between Covered name (λ _. depth) from to ≡ []
  rows-bare none = rw (runs-one depth from to low, none) refl

  -- and those of another depth give one
  pub rows-covered : depth ≢ 0 → rows_between Covered name (λ _. depth) from to ≡ run_row name (record { start = from; stop = to; value = depth })
  rows-covered some =
      let above : nat_lt 0 depth ≡ true = lt-ltb 0 depth (omega (arith, some)) in
      rw (runs-one depth from to low, above) (append-nil (run_row name (record { start = from; stop = to; value = depth })))

  pub rows-one : rows_between All name (λ _. depth) from to ≡ run_row name (record { start = from; stop = to; value = depth })
  rows-one = rw (runs-one depth from to low) (append-nil (run_row name (record { start = from; stop = to; value = depth })))
