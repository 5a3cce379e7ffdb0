-- The different keys of the list that a map from keys to numbers of copies means.
use Rattle.std.proofs.Common.{◌≡◌, ℕ, ◌+◌, ◌<◌, Bool, true, false, cond, List, [], ◌∷◌, ◌++◌, length, refl, ap, arith, zero, suc}
use Rattle.std.specs.Prelude.{All, replicate, filter}
use Rattle.std.specs.List.{AllByRecursion}
use Rattle.std.specs.declared.cmp.Ordering.{Ordering}
use Rattle.std.specs.declared.cmp.Ordering.TheVariants.{Less}
use Rattle.std.specs.Ordering.{is_eq}
use Rattle.std.specs.Cmp.{IsTotalOrder, tied_itself}
use Rattle.std.specs.List.Sorted.{IsStrictlySortedBy}
use Rattle.std.specs.Map.{keys_of, values_of}
use Rattle.std.proofs.lemmas.List.Elements.{All-head, All-tail}
use Rattle.std.proofs.lemmas.Map.Keys.{sorted_head, sorted_tail}
use Rattle.iv_track.specs.Copies.{different_by, expanded}
use Rattle.iv_track.proofs.Counts.{all-expanded}

module _ {K : Type 0} (cmp : K → K → Ordering) where
  -- copies of one key count once
  different-front : IsTotalOrder cmp → (n : ℕ) (k : K) (xs : List K) → AllByRecursion (λ y. cmp k y ≡ Less) xs
      → different_by cmp (replicate (suc n) k ++ xs) ≡ 1 + different_by cmp xs
  different-front o zero k [] above = refl
  different-front o zero k (q ∷ xs) above = ap (λ r. cond (is_eq r) 0 1 + different_by cmp (q ∷ xs)) above.0
  different-front o (suc n) k xs above =
      let same : ◌≡◌ {A = ℕ} (cond (is_eq (cmp k k)) 0 1) 0 = ap {B = ℕ} (λ (r : Ordering). cond (is_eq r) 0 1) (tied_itself o k) in
      omega (arith, same, different-front o n k xs above)

  -- as many different keys as entries
  pub different-expanded : IsTotalOrder cmp → (es : List (K × ℕ)) → IsStrictlySortedBy cmp (keys_of es) → All (λ n. 0 < n) (values_of es)
      → different_by cmp (expanded es) ≡ length es
  different-expanded o [] s present = refl
  different-expanded o (e ∷ es) s present =
      omega (
        arith,
        by e.1 (All-head (λ n. 0 < n) e.1 (values_of es) present),
        different-expanded o es (sorted_tail cmp e.0 (keys_of es) s) (All-tail (λ n. 0 < n) e.1 (values_of es) present),
      )
    where
      above : AllByRecursion (λ y. cmp e.0 y ≡ Less) (expanded es)
      above = all-expanded (λ y. cmp e.0 y ≡ Less) es (sorted_head cmp e.0 (keys_of es) s)

      by : (n : ℕ) → 0 < n → different_by cmp (replicate n e.0 ++ expanded es) ≡ 1 + different_by cmp (expanded es)
      by zero some = absurd (omega (arith, some))
      by (suc n) some = different-front o n e.0 (expanded es) above

-- the keys of the entries that pass are the keys that pass
pub keys-filter : {K X : Type 0} (p : K → Bool) (es : List (K × X)) → keys_of (filter (λ e. p e.0) es) ≡ filter p (keys_of es)
keys-filter p [] = refl
keys-filter p (e ∷ es) =
    elim (p e.0) as (λ b. keys_of (cond b (e ∷ filter (λ f. p f.0) es) (filter (λ f. p f.0) es)) ≡ cond b (e.0 ∷ filter p (keys_of es)) (filter p (keys_of es))) [
      | true ↦ ap (λ ks. e.0 ∷ ks) (keys-filter p es)
      | false ↦ keys-filter p es
    ]
