-- A walk over the entries of a track's map, seen as records.
use Rattle.std.proofs.Common.{◌≡◌, ℕ, ◌<◌, ◌≤◌, arith, length, Bool, true, false, cond, List, [], ◌∷◌, ◌++◌, refl, sym, ap, ◌∙◌, zero, suc}
use Rattle.std.specs.Prelude.{All, filter, replicate}
use Rattle.std.specs.Map.{values_of}
use Rattle.std.specs.Ordering.{nat_cmp}
use Rattle.std.proofs.lemmas.Bool.{cond-true}
use Rattle.std.proofs.lemmas.List.Elements.{filter-append, All-head, All-tail, All-cons}
use Rattle.iv_lines.proofs.ListLemmas.{filter-weaker, filter-all}
use Rattle.iv_lines.specs.RecordValue.{RecordValue}
use Rattle.iv_track.specs.Copies.{expanded}
use Rattle.iv_track.specs.Tracked.{is_from}
use Rattle.iv_track.proofs.EntryIndexLemmas.{le_then, zero_le}

-- no more pass than there are
pub few : {K : Type 0} (p : K → Bool) (xs : List K) → length (filter p xs) ≤ length xs
few p xs = omega (arith, filter-weaker p (λ q. true) xs (λ q m e. refl), ap length (filter-all (λ q. true) xs (λ q m. refl)))

module _ {K : Type 0} where
  filter-replicate : (p : K → Bool) (n : ℕ) (k : K) → filter p (replicate n k) ≡ cond (p k) (replicate n k) []
  filter-replicate p zero k = elim (p k) as (λ b. ◌≡◌ {A = List K} [] (cond b [] [])) [ true ↦ refl | false ↦ refl ]
  filter-replicate p (suc n) k = (elim (p k) as (λ b. p k ≡ b → cond b (k ∷ filter p (replicate n k)) (filter p (replicate n k)) ≡ cond b (k ∷ replicate n k) []) [
    | true ↦ λ is. ap (λ ys. k ∷ ys) (filter-replicate p n k ∙ ap (λ b. cond b (replicate n k) []) is)
    | false ↦ λ is. filter-replicate p n k ∙ ap (λ b. cond b (replicate n k) []) is
  ]) refl

  -- the records of the entries that pass are the records that pass
  pub expanded-filter : (p : K → Bool) (es : List (K × ℕ)) → expanded (filter (λ e. p e.0) es) ≡ filter p (expanded es)
  expanded-filter p [] = refl
  expanded-filter p (e ∷ es) =
      (elim (p e.0) as (λ b. p e.0 ≡ b → expanded (cond b (e ∷ filter (λ f. p f.0) es) (filter (λ f. p f.0) es)) ≡ cond b (replicate e.1 e.0) [] ++ filter p (expanded es)) [
        | true ↦ λ is. ap (λ ys. replicate e.1 e.0 ++ ys) (expanded-filter p es)
        | false ↦ λ is. expanded-filter p es
      ]) refl
      ∙ ap (λ ys. ys ++ filter p (expanded es)) (sym (filter-replicate p e.1 e.0))
      ∙ sym (filter-append p (replicate e.1 e.0) (expanded es))

  -- each entry that passes has copies
  pub present-filter : (p : K × ℕ → Bool) (es : List (K × ℕ)) → All (λ n. 0 < n) (values_of es) → All (λ n. 0 < n) (values_of (filter p es))
  present-filter p [] h = h
  present-filter p (e ∷ es) h =
      let rest = present-filter p es (All-tail (λ n. 0 < n) e.1 (values_of es) h) in
      elim (p e) as (λ b. All (λ n. 0 < n) (values_of (cond b (e ∷ filter p es) (filter p es)))) [
        | true ↦ All-cons (λ n. 0 < n) e.1 (values_of (filter p es)) (All-head (λ n. 0 < n) e.1 (values_of es) h) rest
        | false ↦ rest
      ]

-- from the first base of the first sequence on there is every record
pub filter-from_first : (records : List RecordValue) → filter (is_from 0 0) records ≡ records
filter-from_first [] = refl
filter-from_first (r ∷ records) =
    cond-true (is_from 0 0 r) _ _ (le_then (nat_cmp 0 r.seq) (nat_cmp 0 r.start) (zero_le r.seq) (zero_le r.start))
    ∙ ap (λ (l : List RecordValue). r ∷ l) (filter-from_first records)
