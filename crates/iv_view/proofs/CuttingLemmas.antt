-- Words cut one after another into an array.
use Rattle.std.proofs.Common.{◌≡◌, ℕ, zero, suc, ◌+◌, ◌<◌, ◌≤◌, Bool, true, false, List, [], ◌∷◌, ◌++◌, length, take, map, sym, ap, ◌∙◌, arith, append_assoc, filter, set}
use Rattle.std.specs.Prelude.{not, ◌==◌}
use Rattle.std.specs.Borrow.{Bor}
use Rattle.std.proofs.lemmas.Bool.{cond-true, cond-false, ne_eqb, eq-eqb}
use Rattle.std.proofs.lemmas.List.{take_more_set, map-append, length-map, length-take-le, take-append-le}

-- the words in an array of which the first few are in use
abbrev pub shown : ℕ → List (Bor (List ℕ)) → List (List ℕ)
shown count arguments = map (λ argument. argument.now) (take count arguments)

-- a field that is a word
abbrev pub some : List ℕ → Bool
some argument = not (length argument == 0)

-- a word goes into the array
pub word-taken : (count : ℕ) (arguments : List (Bor (List ℕ))) (field : Bor (List ℕ)) (fields later : List (List ℕ)) → count < length arguments → fields ≡ field.now ∷ later → 0 < length field.now
    → shown (count + 1) (set arguments count field) ++ filter some later ≡ shown count arguments ++ filter some fields
word-taken count arguments field fields later room are long =
    let is : some field.now ≡ true = ap not (ne_eqb (length field.now) 0 (omega arith)) in
    ap (λ (l : List (Bor (List ℕ))). map (λ (argument : Bor (List ℕ)). argument.now) l ++ filter some later) (take_more_set arguments count field room)
    ∙ ap (λ (l : List (List ℕ)). l ++ filter some later) (map-append (λ (argument : Bor (List ℕ)). argument.now) (take count arguments) (field ∷ []))
    ∙ append_assoc (shown count arguments) (field.now ∷ []) (filter some later)
    ∙ ap (λ (l : List (List ℕ)). shown count arguments ++ l) (sym (ap (filter some) are ∙ cond-true (some field.now) (field.now ∷ filter some later) (filter some later) is))

-- an empty field is no word
pub word-empty : (field : List ℕ) (fields later : List (List ℕ)) → fields ≡ field ∷ later → length field ≡ 0 → filter some later ≡ filter some fields
word-empty field fields later are none =
    let is : some field ≡ false = ap not (eq-eqb (length field) 0 none) in
    sym (ap (filter some) are ∙ cond-false (some field) (field ∷ filter some later) (filter some later) is)

-- words past the array are not looked at
pub word-past : (count : ℕ) (arguments : List (Bor (List ℕ))) (more less : List (List ℕ)) → count ≡ 9 → count ≤ length arguments
    → take 9 (shown count arguments ++ more) ≡ take 9 (shown count arguments ++ less)
word-past count arguments more less full within =
    let size : length (shown count arguments) ≡ count = length-map (take count arguments) (λ (argument : Bor (List ℕ)). argument.now) ∙ length-take-le count arguments within in
    take-append-le 9 (shown count arguments) more (omega arith) ∙ sym (take-append-le 9 (shown count arguments) less (omega arith))

pub positive : (n : ℕ) → (n == 0) ≡ false → 0 < n
positive zero none = absurd (cc none)
positive (suc n) none = omega arith
