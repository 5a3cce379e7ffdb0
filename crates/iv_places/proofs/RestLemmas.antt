-- The rest that a text begins with.
use Rattle.std.proofs.Common.{◌≡◌, ℕ, ◌+◌, ◌-◌, ◌<◌, ◌≤◌, List, [], ◌∷◌, ◌++◌, length, take, drop, get_or, refl, sym, ap, ◌∙◌, arith, add-one, drop-cons}
use Rattle.std.proofs.lemmas.Bool.{cond-false, eqb-true}
use Rattle.std.proofs.lemmas.List.{take-append-drop, drop_all}
use Rattle.bstr.specs.Find.{Nowhere, NoneBefore, Passes, is_byte}
use Rattle.iv_lines.specs.Lines.{HasNoFeed}
use Rattle.iv_lines.proofs.LineLemmas.{not_feed, plain_rest}
use Rattle.iv_lines.proofs.PieceLemmas.{rest-whole}
use Rattle.iv_lines.proofs.SplitLemmas.{plain-all, plain-front}
use Rattle.iv_places.specs.Inside.Places.{rest_at, rest_in}

-- a line feed ends it
pub rest-fed : (front back : List ℕ) → HasNoFeed front → rest_in (front ++ 10 ∷ back) ≡ front
rest-fed [] back plain = refl
rest-fed (b ∷ bs) back plain = cond-false _ _ _ (not_feed b bs plain) ∙ ap (λ t. b ∷ t) (rest-fed bs back (plain_rest b bs plain))

-- a text without a line feed is its own rest
rest-plain : (text : List ℕ) → HasNoFeed text → rest_in text ≡ text
rest-plain [] plain = refl
rest-plain (b ∷ bs) plain = cond-false _ _ _ (not_feed b bs plain) ∙ ap (λ t. b ∷ t) (rest-plain bs (plain_rest b bs plain))

-- the rest ends at the first line feed
rest-before : (text : List ℕ) (k : ℕ) → NoneBefore (Passes (is_byte 10) text) 0 (length text) k → Passes (is_byte 10) text k → take k text ≡ rest_in text
rest-before text k first is =
    let within : k < length text = first.high in
    let feed : get_or text k 0 ≡ 10 = eqb-true (get_or text k 0) 10 is in
    let whole : text ≡ take k text ++ (get_or text k 0 ∷ drop (k + 1) text) = sym (take-append-drop k text) ∙ ap (λ t. take k text ++ t) (rw (add-one, drop-cons text k 0) refl) in
    sym (ap rest_in (whole ∙ ap (λ b. take k text ++ (b ∷ drop (k + 1) text)) feed) ∙ rest-fed (take k text) (drop (k + 1) text) (plain-front text k (omega arith) first.before))

-- or with the text
rest-all : (text : List ℕ) → Nowhere (Passes (is_byte 10) text) 0 (length text) → text ≡ rest_in text
rest-all text none = sym (rest-plain text (plain-all text none))

-- there is none past the end
pub rest-past : (rests : List ℕ) (at : ℕ) → length rests ≤ at → rest_at rests at ≡ []
unfolding rest_at
rest-past rests at past = ap rest_in (drop_all at rests past)

-- the rest at a byte, by where the first line feed was found in what is there
pub rest-found : (rests : List ℕ) (at k : ℕ) → NoneBefore (Passes (is_byte 10) (take (length rests - at) (drop at rests))) 0 (length (take (length rests - at) (drop at rests))) k
    → Passes (is_byte 10) (take (length rests - at) (drop at rests)) k → take k (take (length rests - at) (drop at rests)) ≡ rest_at rests at
unfolding rest_at
rest-found rests at k first is = rest-before (take (length rests - at) (drop at rests)) k first is ∙ ap rest_in (rest-whole rests at)

-- or if there is none
pub rest-last : (rests : List ℕ) (at : ℕ) → Nowhere (Passes (is_byte 10) (take (length rests - at) (drop at rests))) 0 (length (take (length rests - at) (drop at rests)))
    → take (length rests - at) (drop at rests) ≡ rest_at rests at
unfolding rest_at
rest-last rests at none = rest-all (take (length rests - at) (drop at rests)) none ∙ ap rest_in (rest-whole rests at)
