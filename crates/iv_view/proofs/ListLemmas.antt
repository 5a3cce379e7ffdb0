-- Items that are collected one after another.
use Rattle.std.proofs.Common.{◌≡◌, List, [], ◌∷◌, ◌++◌, Option, Some, None, refl, sym, ap, append-nil, append_assoc}
use Rattle.std.specs.Option.{option_map}

-- what is collected, and what the rest means
abbrev pub with_rest : {A : Type 0} → List A → Option (List A) → Option (List A)
with_rest done rest = option_map (λ later. done ++ later) rest

pub rest-more : {A : Type 0} (done : List A) (item : A) (rest : Option (List A)) → with_rest done (option_map (λ later. item ∷ later) rest) ≡ with_rest (done ++ item ∷ []) rest
rest-more done item None = refl
rest-more done item (Some later) = ap (λ l. Some l) (sym (append_assoc done (item ∷ []) later))

pub rest-ends : {A : Type 0} (done : List A) → with_rest done (Some []) ≡ Some done
rest-ends done = ap (λ l. Some l) (append-nil done)
