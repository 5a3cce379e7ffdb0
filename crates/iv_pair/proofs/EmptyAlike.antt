-- The runs of value 0 depend only on where the function is 0.
use Rattle.std.proofs.Common.{◌≡◌, ◌≢◌, ℕ, zero, suc, ◌+◌, ◌-◌, ◌==◌, Bool, true, false, cond, List, [], ◌∷◌, filter, refl, sym, ap, ◌∙◌, inl, inr}
use Rattle.std.proofs.lemmas.Bool.{eq-eqb, ne_eqb}
use Rattle.std.proofs.lemmas.Bool.Decides.{eqb_tells}
use Rattle.iv_cover.specs.Runs.{Run, joined, runs_over, empty_runs}

-- the runs of value 0
abbrev empty : List Run → List Run
empty runs = filter (λ run. run.value == 0) runs

-- whether the first run has value 0
abbrev begins_empty : List Run → Bool
begins_empty [] = false
begins_empty (run ∷ runs) = run.value == 0

-- one more position of value 0 in front of the runs of value 0: it joins the first of them, or is a run of its own
abbrev longer : Bool → ℕ → List Run → List Run
longer true p [] = []
longer true p (run ∷ runs) = record run { start = p } ∷ runs
longer false p runs = record { start = p; stop = p + 1; value = 0 } ∷ runs

empty-joined_zero : (p : ℕ) (runs : List Run) → empty (joined p 0 runs) ≡ longer (begins_empty runs) p (empty runs)
empty-joined_zero p [] = refl
empty-joined_zero p (run ∷ runs) = elim (eqb_tells run.value 0) [
  | inl same ↦ rw (same.0, eq-eqb 0 run.value (sym same.1), same.0) refl
  | inr differ ↦ rw (differ.0, ne_eqb 0 run.value (λ e. differ.1 (sym e)), differ.0) refl
]

empty-joined_other : (p value : ℕ) (runs : List Run) → value ≢ 0 → empty (joined p value runs) ≡ empty runs
empty-joined_other p value [] some = rw (ne_eqb value 0 some) refl
empty-joined_other p value (run ∷ runs) some = elim (eqb_tells value run.value) [
  | inl same ↦ let off : run.value ≢ 0 = λ e. some (same.1 ∙ e) in rw (same.0, ne_eqb run.value 0 off) refl
  | inr differ ↦ rw (differ.0, ne_eqb value 0 some) refl
]

empty-joined : (p value : ℕ) (runs : List Run) → empty (joined p value runs) ≡ cond (value == 0) (longer (begins_empty runs) p (empty runs)) (empty runs)
empty-joined p value runs = elim (eqb_tells value 0) [
  | inl same ↦ ap (λ v. empty (joined p v runs)) same.1 ∙ empty-joined_zero p runs ∙ ap (λ b. cond b (longer (begins_empty runs) p (empty runs)) (empty runs)) (sym same.0)
  | inr differ ↦ empty-joined_other p value runs differ.1 ∙ ap (λ b. cond b (longer (begins_empty runs) p (empty runs)) (empty runs)) (sym differ.0)
]

begins-joined : (p value : ℕ) (runs : List Run) → begins_empty (joined p value runs) ≡ (value == 0)
begins-joined p value [] = refl
begins-joined p value (run ∷ runs) = elim (eqb_tells value run.value) [
  | inl same ↦ rw same.0 (ap (λ v. v == 0) (sym same.1))
  | inr differ ↦ rw differ.0 refl
]

module _ (f h : ℕ → ℕ) (alike : (p : ℕ) → (f p == 0) ≡ (h p == 0)) where
  both : (p n : ℕ) → (begins_empty (runs_over f p n) ≡ begins_empty (runs_over h p n)) × (empty (runs_over f p n) ≡ empty (runs_over h p n))
  unfolding runs_over
  both p zero = (refl, refl)
  both p (suc n) =
      let rest = both (p + 1) n in (
        begins-joined p (f p) (runs_over f (p + 1) n) ∙ alike p ∙ sym (begins-joined p (h p) (runs_over h (p + 1) n)),
        empty-joined p (f p) (runs_over f (p + 1) n)
            ∙ (λ i. cond (alike p i) (longer (rest.0 i) p (rest.1 i)) (rest.1 i))
            ∙ sym (empty-joined p (h p) (runs_over h (p + 1) n)),
      )

  -- two functions that are 0 at the same positions have the same runs of value 0
  pub empty-alike : (from to : ℕ) → empty_runs f from to ≡ empty_runs h from to
  empty-alike from to = (both from (to - from)).1
