-- The first item that is found, and a filter from the other end.
use Rattle.std.proofs.Common.{◌≡◌, Bool, true, false, cond, List, [], ◌∷◌, ◌++◌, Some, refl, sym, ap, ◌∙◌}
use Rattle.std.specs.Prelude.{find, filter, reverse}
use Rattle.std.specs.List.{slice_get}
use Rattle.std.proofs.lemmas.List.{reverse-append}
use Rattle.std.proofs.lemmas.List.Elements.{filter-append}

module _ {X : Type 0} where
  pub find-filter : (p : X → Bool) (xs : List X) → find p xs ≡ slice_get (filter p xs) 0
  find-filter p [] = refl
  find-filter p (x ∷ xs) = elim (p x) as (λ b. cond b (Some x) (find p xs) ≡ slice_get (cond b (x ∷ filter p xs) (filter p xs)) 0) [ true ↦ refl | false ↦ find-filter p xs ]

  reverse-filter_one : (p : X → Bool) (x : X) → reverse (filter p (x ∷ [])) ≡ filter p (x ∷ [])
  reverse-filter_one p x = elim (p x) as (λ b. reverse (cond b (x ∷ []) []) ≡ cond b (x ∷ []) []) [ true ↦ refl | false ↦ refl ]

  pub filter-reverse : (p : X → Bool) (xs : List X) → filter p (reverse xs) ≡ reverse (filter p xs)
  filter-reverse p [] = refl
  filter-reverse p (x ∷ xs) =
      ap (filter p) (reverse-append (x ∷ []) xs)
      ∙ filter-append p (reverse xs) (x ∷ [])
      ∙ (λ i. filter-reverse p xs i ++ sym (reverse-filter_one p x) i)
      ∙ sym (reverse-append (filter p (x ∷ [])) (filter p xs))
      ∙ ap reverse (sym (filter-append p (x ∷ []) xs))
