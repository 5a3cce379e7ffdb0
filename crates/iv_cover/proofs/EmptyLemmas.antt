-- The runs of value 0, found one by one.
use Rattle.std.proofs.Common.{◌≡◌, ◌≢◌, ℕ, zero, suc, ◌+◌, ◌-◌, ◌<◌, ◌≤◌, List, [], ◌∷◌, refl, ◌∙◌, subst, arith, filter, eqb, inl, inr}
use Rattle.std.proofs.lemmas.Bool.{ne_eqb}
use Rattle.std.proofs.lemmas.Bool.Decides.{eqb_tells}
use Rattle.iv_cover.specs.Runs.{Run}
use Rattle.iv_cover.specs.Runs.{joined, runs_over, empty_runs}
use Rattle.iv_cover.proofs.RunsLemmas.{runs-none, runs-run}

-- if there is no position there is no run
pub empty_runs-none : (f : ℕ → ℕ) (from to : ℕ) → to ≤ from → empty_runs f from to ≡ []
empty_runs-none f from to h = rw (runs-none f from to h) refl

filter-joined : (p value : ℕ) (rest : List Run) → value ≢ 0
    → filter (λ (run : Run). eqb run.value 0) (joined p value rest) ≡ filter (λ (run : Run). eqb run.value 0) rest
filter-joined p value [] h = rw (ne_eqb value 0 h) refl
filter-joined p value (run ∷ rest) h =
    let cases = eqb_tells value run.value in
    elim cases [
      | inl same ↦ let off : run.value ≢ 0 = rw same.1 at h in rw (same.0, ne_eqb run.value 0 off) refl
      | inr differ ↦ rw (differ.0, ne_eqb value 0 h) refl
    ]

skip_over : (f : ℕ → ℕ) (p d n : ℕ) → ((q : ℕ) → p ≤ q → q < p + d → f q ≢ 0)
    → filter (λ (run : Run). eqb run.value 0) (runs_over f p (d + n)) ≡ filter (λ (run : Run). eqb run.value 0) (runs_over f (p + d) n)
unfolding runs_over
skip_over f p zero n some = let a : zero + n ≡ n = omega arith in let b : p + zero ≡ p = omega arith in rw (a, b) refl
skip_over f p (suc d) n some =
    let more : suc d + n ≡ suc (d + n) = omega arith in
    let on : (p + 1) + d ≡ p + suc d = omega arith in
    let rest = skip_over f (p + 1) d n (λ q low high. some q (omega arith) (omega arith)) in
    rw (more) (filter-joined p (f p) (runs_over f (p + 1) (d + n)) (some p (omega arith) (omega arith)) ∙ rw on at rest)

-- positions where f is not 0 are passed over, whatever its values
pub empty_runs-skip : (f : ℕ → ℕ) (from mid to : ℕ) → from ≤ mid → mid ≤ to → ((q : ℕ) → from ≤ q → q < mid → f q ≢ 0)
    → empty_runs f from to ≡ empty_runs f mid to
empty_runs-skip f from mid to low high some =
    let d : ℕ = mid - from in
    let n : ℕ = to - mid in
    let all : to - from ≡ d + n = omega arith in
    let end : from + d ≡ mid = omega arith in
    rw all (subst (λ (m : ℕ). filter (λ (run : Run). eqb run.value 0) (runs_over f from (d + n)) ≡ filter (λ (run : Run). eqb run.value 0) (runs_over f m n)) end
    (skip_over f from d n (λ q l h. some q l (omega (arith, end)))))

-- positions where it is 0, up to one where it is not or the end, are a run
pub empty_runs-run : (f : ℕ → ℕ) (from mid to : ℕ) → from < mid → mid ≤ to → ((q : ℕ) → from ≤ q → q < mid → f q ≡ 0) → (mid < to → 0 ≢ f mid)
    → empty_runs f from to ≡ record { start = from; stop = mid; value = 0 } ∷ empty_runs f mid to
empty_runs-run f from mid to low high same ends = rw (runs-run f from mid to 0 low high same ends) refl
