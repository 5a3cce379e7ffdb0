-- Bytes that are read in pieces: their lines, cut after a line feed, what is left of them, and an error that is handed on.
use Rattle.std.proofs.Common.{◌≡◌, ℕ, zero, suc, ◌+◌, ◌-◌, ◌<◌, Bool, true, false, cond, ◌==◌, ◌&&◌, List, [], ◌∷◌, ◌++◌, Result, Ok, Err, length, take, drop, slice_index_or, refl, sym, ap, subst, ◌∙◌, arith, inl, inr, append_assoc}
use Rattle.std.specs.Prelude.{IsErrAnd, IfErr}
use Rattle.std.proofs.lemmas.Grind.{common_steps}
use Rattle.std.specs.List.{onto_first}
use Rattle.std.proofs.lemmas.List.{drop_all, take_more}
use Rattle.iv_lines.specs.Lines.{begins_with, lines}
use Rattle.iv_lines.specs.Inside.Pieces.{EndsAtFeed, IsEnded}

abbrev HasLine : List (List ℕ) → Type 0
HasLine ls = (first : List ℕ) × (others : List (List ℕ)) × (ls ≡ first ∷ others)

has_line-step : (t u : Bool) (b : ℕ) (ls : List (List ℕ)) → HasLine ls → HasLine (cond t ([] ∷ ls) (cond u ls (onto_first b ls)))
has_line-step true u b ls some = ([], ls, refl)
has_line-step false true b ls some = some
has_line-step false false b ls some = (b ∷ some.0, some.1, ap (onto_first b) some.2)

has_line : (xs : List ℕ) → HasLine (lines (xs ++ 10 ∷ []))
has_line [] = ([], [], refl)
has_line (x ∷ xs) = has_line-step (x == 10) ((x == 13) && begins_with 10 (xs ++ 10 ∷ [])) x (lines (xs ++ 10 ∷ [])) (has_line xs)

cut-step : (t u : Bool) (b : ℕ) (ls more : List (List ℕ)) → HasLine ls
    → cond t ([] ∷ (ls ++ more)) (cond u (ls ++ more) (onto_first b (ls ++ more))) ≡ cond t ([] ∷ ls) (cond u ls (onto_first b ls)) ++ more
cut-step true u b ls more some = refl
cut-step false true b ls more some = refl
cut-step false false b ls more some = ap (λ (l : List (List ℕ)). onto_first b (l ++ more)) some.2 ∙ sym (ap (λ (l : List (List ℕ)). onto_first b l ++ more) some.2)

same-first : (xs more : List ℕ) → begins_with 10 ((xs ++ 10 ∷ []) ++ more) ≡ begins_with 10 (xs ++ 10 ∷ [])
same-first [] more = refl
same-first (x ∷ xs) more = refl

-- the lines of bytes that end at a line feed, and of more bytes
lines-cut : (xs more : List ℕ) → lines ((xs ++ 10 ∷ []) ++ more) ≡ lines (xs ++ 10 ∷ []) ++ lines more
lines-cut [] more = refl
lines-cut (x ∷ xs) more =
    (λ i. cond (x == 10) ([] ∷ lines-cut xs more i) (cond ((x == 13) && same-first xs more i) (lines-cut xs more i) (onto_first x (lines-cut xs more i))))
    ∙ cut-step (x == 10) ((x == 13) && begins_with 10 (xs ++ 10 ∷ [])) x (lines (xs ++ 10 ∷ [])) (lines more) (has_line xs)

pub lines-fed : (bytes more : List ℕ) → EndsAtFeed bytes → lines (bytes ++ more) ≡ lines bytes ++ lines more
lines-fed bytes more ends =
    ap (λ (t : List ℕ). lines (t ++ more)) ends.1 ∙ lines-cut ends.0 more ∙ sym (ap (λ (t : List ℕ). lines t ++ lines more) ends.1)

pub lines-ended : (bytes more : List ℕ) → IsEnded bytes → lines (bytes ++ more) ≡ lines bytes ++ lines more
lines-ended bytes more (inl none) = ap (λ (t : List ℕ). lines (t ++ more)) none ∙ sym (ap (λ (t : List ℕ). lines t ++ lines more) none)
lines-ended bytes more (inr ends) = lines-fed bytes more ends

ended-drop : (n : ℕ) (front : List ℕ) → IsEnded (drop n (front ++ 10 ∷ []))
ended-drop zero front = inr (front, refl)
ended-drop (suc n) [] = inl (drop_all n [] (omega arith))
ended-drop (suc n) (x ∷ front) = ended-drop n front

-- what is left of lines
pub ended-rest : (n : ℕ) (bytes : List ℕ) → EndsAtFeed bytes → IsEnded (drop n bytes)
ended-rest n bytes ends = subst (λ (t : List ℕ). IsEnded (drop n t)) (sym ends.1) (ended-drop n ends.0)

-- the bytes up to a line feed
pub fed-at : (bytes : List ℕ) (at d : ℕ) → at < length bytes → slice_index_or bytes at d ≡ 10 → EndsAtFeed (take (at + 1) bytes)
fed-at bytes at d within feed = (take at bytes, take_more bytes at d within ∙ ap (λ (b : ℕ). take at bytes ++ b ∷ []) feed)

-- more bytes in front
pub fed-after : (front bytes : List ℕ) → EndsAtFeed bytes → EndsAtFeed (front ++ bytes)
fed-after front bytes ends = (front ++ ends.0, ap (λ (t : List ℕ). front ++ t) ends.1 ∙ sym (append_assoc front ends.0 (10 ∷ [])))

-- what follows from an error follows if it is handed on
pub handed-on : {T E : Type 0} (r : Result T E) (f : E) (P : E → Type 0) → IsErrAnd r (λ e. e ≡ f) → P f → IfErr r P
handed-on (Ok x) f P is holds = absurd is
handed-on (Err e) f P is holds = subst P (sym is) holds

-- what is left from an index on
pub rest-whole : {X : Type 0} (xs : List X) (at : ℕ) → take (length xs - at) (drop at xs) ≡ drop at xs
rest-whole xs at = grind (arith, common_steps)
