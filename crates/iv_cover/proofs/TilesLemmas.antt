-- The runs of a tiling.
use Rattle.std.proofs.Common.{◌≡◌, ℕ, ◌<◌, ◌≤◌, List, [], ◌∷◌, ◌⊎◌, refl, sym, ◌∙◌, ap, subst, arith, inl, inr}
use Rattle.std.proofs.lemmas.Bool.{cases_lt}
use Rattle.iv_cover.specs.Runs.{Run, BeginsOther, Tiles}
use Rattle.iv_lines.proofs.ListLemmas.{Mem}
use Rattle.iv_cover.proofs.RunsLemmas.{Tiles-le}

-- each position is in a run
pub tiles-position : (f : ℕ → ℕ) (from to p : ℕ) (xs : List Run) → Tiles f from to xs → from ≤ p → p < to
    → (run : Run) × Mem run xs × (run.start ≤ p) × (p < run.stop) × (f p ≡ run.value)
tiles-position f from to p [] t low high = absurd (omega (arith, t))
tiles-position f from to p (x ∷ xs) t low high = go (cases_lt p x.stop) (λ past. tiles-position f x.stop to p xs t.4 past high)
  where
    go : (p < x.stop) ⊎ (x.stop ≤ p) → (x.stop ≤ p → (run : Run) × Mem run xs × (run.start ≤ p) × (p < run.stop) × (f p ≡ run.value))
        → (run : Run) × Mem run (x ∷ xs) × (run.start ≤ p) × (p < run.stop) × (f p ≡ run.value)
    go (inl within) later = (x, inl refl, omega (arith, t.0), within, t.2 p (omega (arith, t.0)) within)
    go (inr past) later = let l = later past in (l.0, inr l.1, l.2, l.3, l.4)

-- a run has its value at each of its positions
pub tiles-run : (f : ℕ → ℕ) (from to : ℕ) (xs : List Run) (run : Run) → Tiles f from to xs → Mem run xs
    → (p : ℕ) → run.start ≤ p → p < run.stop → f p ≡ run.value
tiles-run f from to [] run t m = absurd m
tiles-run f from to (x ∷ xs) run t (inl is) = subst (λ (r : Run). (p : ℕ) → r.start ≤ p → p < r.stop → f p ≡ r.value) is t.2
tiles-run f from to (x ∷ xs) run t (inr m) = tiles-run f x.stop to xs run t.4 m

-- a run has a position, and is within what is tiled
pub tiles-bounds : (f : ℕ → ℕ) (from to : ℕ) (xs : List Run) (run : Run) → Tiles f from to xs → Mem run xs
    → (from ≤ run.start) × (run.start < run.stop) × (run.stop ≤ to)
tiles-bounds f from to [] run t m = absurd m
tiles-bounds f from to (x ∷ xs) run t (inl is) =
    let ends = Tiles-le f x.stop to xs t.4 in
    subst (λ (r : Run). (from ≤ r.start) × (r.start < r.stop) × (r.stop ≤ to)) is (omega (arith, t.0), t.1, ends)
tiles-bounds f from to (x ∷ xs) run t (inr m) =
    let rest = tiles-bounds f x.stop to xs run t.4 m in
    (omega (arith, t.0, t.1, rest.0), rest.1, rest.2)

-- a run of the value that the first has not starts later
pub tiles-later : (f : ℕ → ℕ) (from to value : ℕ) (xs : List Run) (run : Run) → Tiles f from to xs → BeginsOther value xs → Mem run xs → run.value ≡ value → from < run.start
tiles-later f from to value [] run t other m same = absurd m
tiles-later f from to value (x ∷ xs) run t other (inl is) same = absurd (other (sym (ap (λ (r : Run). r.value) is ∙ same)))
tiles-later f from to value (x ∷ xs) run t other (inr m) same =
    let rest = tiles-bounds f x.stop to xs run t.4 m in
    omega (arith, t.0, t.1, rest.0)

-- runs of one value don't touch
pub tiles-apart : (f : ℕ → ℕ) (from to : ℕ) (xs : List Run) (a b : Run) → Tiles f from to xs → Mem a xs → Mem b xs → a.value ≡ b.value → a.start < b.start → a.stop < b.start
tiles-apart f from to [] a b t m n same low = absurd m
tiles-apart f from to (x ∷ xs) a b t (inl is) (inl at) same low = absurd (omega (arith, low, ap (λ (r : Run). r.start) is, ap (λ (r : Run). r.start) at))
tiles-apart f from to (x ∷ xs) a b t (inl is) (inr n) same low =
    let past = tiles-later f x.stop to x.value xs b t.4 t.3 n (sym (ap (λ (r : Run). r.value) is ∙ same)) in
    omega (arith, past, ap (λ (r : Run). r.stop) is)
tiles-apart f from to (x ∷ xs) a b t (inr m) (inl at) same low =
    let rest = tiles-bounds f x.stop to xs a t.4 m in
    absurd (omega (arith, low, rest.0, t.1, ap (λ (r : Run). r.start) at))
tiles-apart f from to (x ∷ xs) a b t (inr m) (inr n) same low = tiles-apart f x.stop to xs a b t.4 m n same low

-- one run starts at a position
pub tiles-one : (f : ℕ → ℕ) (from to : ℕ) (xs : List Run) (a b : Run) → Tiles f from to xs → Mem a xs → Mem b xs → a.start ≡ b.start → a ≡ b
tiles-one f from to [] a b t m n same = absurd m
tiles-one f from to (x ∷ xs) a b t (inl is) (inl at) same = sym is ∙ at
tiles-one f from to (x ∷ xs) a b t (inl is) (inr n) same =
    let rest = tiles-bounds f x.stop to xs b t.4 n in
    absurd (omega (arith, same, rest.0, t.1, ap (λ (r : Run). r.start) is))
tiles-one f from to (x ∷ xs) a b t (inr m) (inl at) same =
    let rest = tiles-bounds f x.stop to xs a t.4 m in
    absurd (omega (arith, same, rest.0, t.1, ap (λ (r : Run). r.start) at))
tiles-one f from to (x ∷ xs) a b t (inr m) (inr n) same = tiles-one f x.stop to xs a b t.4 m n same
