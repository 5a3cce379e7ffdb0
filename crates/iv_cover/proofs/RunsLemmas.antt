-- The maximal runs, found run by run.
use Rattle.std.proofs.Common.{◌≡◌, ◌≢◌, ℕ, zero, suc, ◌+◌, ◌-◌, ◌<◌, ◌≤◌, List, [], ◌∷◌, refl, sym, ◌∙◌, ap, subst, inl, inr, arith}
use Rattle.std.proofs.lemmas.Bool.{cases_eq, ne_eqb, eq-eqb}
use Rattle.std.proofs.lemmas.Bool.Decides.{eqb_tells}
use Rattle.iv_cover.specs.Runs.{Run, joined, runs_over, runs, BeginsOther, Tiles}

-- no more positions, or another value at the next
abbrev pub EndsAt : (ℕ → ℕ) → ℕ → ℕ → ℕ → Type 0
EndsAt f value p zero = Unit {0}
EndsAt f value p (suc _) = value ≢ f p

joined-other : (p value : ℕ) (rest : List Run) → BeginsOther value rest
    → joined p value rest ≡ record { start = p; stop = p + 1; value = value } ∷ rest
joined-other p value [] h = refl
joined-other p value (run ∷ rest) h = rw (ne_eqb value run.value h)

joined-same : (p value stop : ℕ) (q : ℕ) (rest : List Run)
    → joined p value (record { start = q; stop = stop; value = value } ∷ rest) ≡ record { start = p; stop = stop; value = value } ∷ rest
joined-same p value stop q rest = rw (eq-eqb value value refl)

BeginsOther-joined : (value p other : ℕ) (rest : List Run) → value ≢ other → BeginsOther value (joined p other rest)
BeginsOther-joined value p other [] h = h
BeginsOther-joined value p other (run ∷ rest) h =
    let cases = eqb_tells other run.value in
    elim cases [
      | inl same ↦ rw same.0 (rw (← same.1) h)
      | inr differ ↦ rw differ.0 h
    ]

BeginsOther-runs_over : (f : ℕ → ℕ) (value p n : ℕ) → EndsAt f value p n → BeginsOther value (runs_over f p n)
unfolding runs_over
BeginsOther-runs_over f value p zero h = tt
BeginsOther-runs_over f value p (suc n) h = BeginsOther-joined value p (f p) (runs_over f (p + 1) n) h

-- positions of one value, and then another or none, are the first run
runs_over-run : (f : ℕ → ℕ) (p value d n : ℕ)
    → ((q : ℕ) → p ≤ q → q < p + suc d → f q ≡ value)
    → EndsAt f value (p + suc d) n
    → runs_over f p (suc (d + n)) ≡ record { start = p; stop = p + suc d; value = value } ∷ runs_over f (p + suc d) n
unfolding runs_over
runs_over-run f p value zero n same ends =
    let here : f p ≡ value = same p (omega arith) (omega arith) in
    let one : p + suc zero ≡ p + 1 = omega arith in
    let none : zero + n ≡ n = omega arith in
    rw (none, here) (joined-other p value (runs_over f (p + 1) n) (BeginsOther-runs_over f value (p + 1) n ends))
runs_over-run f p value (suc d) n same ends =
    let here : f p ≡ value = same p (omega arith) (omega arith) in
    let on : (p + 1) + suc d ≡ p + suc (suc d) = omega arith in
    let more : suc d + n ≡ suc (d + n) = omega arith in
    let rest : runs_over f (p + 1) (suc (d + n)) ≡ record { start = p + 1; stop = (p + 1) + suc d; value = value } ∷ runs_over f ((p + 1) + suc d) n
    = runs_over-run f (p + 1) value d n (λ q low high. same q (omega arith) (omega arith)) (subst (λ (q : ℕ). EndsAt f value q n) (sym on) ends) in
    rw (more, here, rest, on) (joined-same p value (p + suc (suc d)) (p + 1) (runs_over f (p + suc (suc d)) n))

pub runs-none : (f : ℕ → ℕ) (from to : ℕ) → to ≤ from → runs f from to ≡ []
unfolding runs_over
runs-none f from to h = let e : to - from ≡ zero = omega arith in rw e

-- The step of a walk: f is value from `from` up to `mid`, and at `mid` the positions end or f has another value.
pub runs-run : (f : ℕ → ℕ) (from mid to value : ℕ) → from < mid → mid ≤ to
    → ((q : ℕ) → from ≤ q → q < mid → f q ≡ value)
    → (mid < to → value ≢ f mid)
    → runs f from to ≡ record { start = from; stop = mid; value = value } ∷ runs f mid to
runs-run f from mid to value low high same ends =
    let d : ℕ = mid - (from + 1) in
    let n : ℕ = to - mid in
    let all : to - from ≡ suc (d + n) = omega arith in
    let end : from + suc d ≡ mid = omega arith in
    let whole = runs_over-run f from value d n
    (λ q l h. same q l (omega (arith, end)))
    (subst (λ (q : ℕ). EndsAt f value q n) (sym end) (EndsAt-from n (λ h. ends (omega arith)))) in
    rw all (subst (λ (m : ℕ). runs_over f from (suc (d + n)) ≡ record { start = from; stop = m; value = value } ∷ runs_over f m n) end whole)
  where
    EndsAt-from : (n : ℕ) → (0 < n → value ≢ f mid) → EndsAt f value mid n
    EndsAt-from zero h = tt
    EndsAt-from (suc n) h = h (omega arith)

-- what tiles [from, to) begins at most at its end
pub Tiles-le : (f : ℕ → ℕ) (from to : ℕ) (xs : List Run) → Tiles f from to xs → from ≤ to
Tiles-le f from to [] h = omega arith
Tiles-le f from to (x ∷ xs) h = let rest : x.stop ≤ to = Tiles-le f x.stop to xs h.4 in omega arith

Tiles-joined : (f : ℕ → ℕ) (p to : ℕ) (xs : List Run) → Tiles f (p + 1) to xs → Tiles f p to (joined p (f p) xs)
Tiles-joined f p to [] h = (refl, omega arith, λ q low high. let e : q ≡ p = omega arith in ap f e, tt, h)
Tiles-joined f p to (x ∷ xs) h =
    let cases = eqb_tells (f p) x.value in
    elim cases [
      | inl same ↦ rw same.0 (refl, omega arith, λ q low high. elim (cases_eq q p) [ inl e ↦ ap f e ∙ same.1 | inr ne ↦ h.2 q (omega arith) high ], h.3, h.4)
      | inr differ ↦ rw differ.0 (refl, omega arith, λ q low high. let e : q ≡ p = omega arith in ap f e, differ.1, h)
    ]

-- the runs keep the rule
pub Tiles-runs_over : (f : ℕ → ℕ) (p n : ℕ) → Tiles f p (p + n) (runs_over f p n)
unfolding runs_over
Tiles-runs_over f p zero = omega arith
Tiles-runs_over f p (suc n) =
    let e : (p + 1) + n ≡ p + suc n = omega arith in
    let rest : Tiles f (p + 1) (p + suc n) (runs_over f (p + 1) n) = rw e at (Tiles-runs_over f (p + 1) n) in
    Tiles-joined f p (p + suc n) (runs_over f (p + 1) n) rest

pub Tiles-runs : (f : ℕ → ℕ) (from to : ℕ) → from ≤ to → Tiles f from to (runs f from to)
Tiles-runs f from to le =
    let e : from + (to - from) ≡ to = omega arith in
    subst (λ (t : ℕ). Tiles f from t (runs_over f from (to - from))) e (Tiles-runs_over f from (to - from))

Tiles-next : (f : ℕ → ℕ) (value p to : ℕ) (xs : List Run) → Tiles f p to xs → BeginsOther value xs → p < to → value ≢ f p
Tiles-next f value p to [] h other low = absurd (omega arith)
Tiles-next f value p to (x ∷ xs) h other low = λ e. other (e ∙ h.2 p (omega arith) (omega arith))

-- and no other list does
pub Tiles-only : (f : ℕ → ℕ) (from to : ℕ) (xs : List Run) → Tiles f from to xs → xs ≡ runs f from to
Tiles-only f from to [] h = sym (runs-none f from to (omega arith))
Tiles-only f from to (x ∷ xs) h =
    let begins : x.start ≡ from = h.0 in
    let first : runs f x.start to ≡ x ∷ runs f x.stop to
    = runs-run f x.start x.stop to x.value h.1 (Tiles-le f x.stop to xs h.4) h.2 (Tiles-next f x.value x.stop to xs h.4 h.3) in
    rw (← begins, first, ← Tiles-only f x.stop to xs h.4)
