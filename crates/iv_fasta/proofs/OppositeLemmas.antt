-- The opposite strand, part by part.
use Rattle.std.proofs.Common.{◌≡◌, ℕ, ◌+◌, ◌-◌, ◌<◌, List, [], ◌∷◌, ◌++◌, length, map, reverse, take, drop, get_or, set, sym, ◌∙◌, ap, arith, take-append-drop}
use Rattle.std.proofs.lemmas.List.{reverse-append, length-reverse, get_or-reverse, get_or-map, map-append, length-map, take_more_set, take_more}
use Rattle.iv_fasta.specs.Complement.{complement}
use Rattle.iv_fasta.specs.Inside.FastaRows.{opposite}

pub length-opposite : (bases : List ℕ) → length (opposite bases) ≡ length bases
length-opposite bases = length-map (reverse bases) complement ∙ length-reverse bases

-- one more base
pub opposite-more : (chunk bases : List ℕ) (at : ℕ) → at < length bases → length chunk ≡ length bases → take at chunk ≡ take at (opposite bases)
    → take (at + 1) (set chunk at (complement (get_or bases (length bases - 1 - at) 0))) ≡ take (at + 1) (opposite bases)
opposite-more chunk bases at within long so_far =
    take_more_set chunk at (complement (get_or bases (length bases - 1 - at) 0)) (omega arith)
    ∙ ap (λ (l : List ℕ). l ++ complement (get_or bases (length bases - 1 - at) 0) ∷ []) so_far
    ∙ ap (λ (b : ℕ). take at (opposite bases) ++ b ∷ []) (ap complement (sym (get_or-reverse bases at 0 within)) ∙ sym (get_or-map complement (reverse bases) at 0 0 (omega (arith, length-reverse bases))))
    ∙ sym (take_more (opposite bases) at 0 (omega (arith, length-opposite bases)))

-- the back comes first
pub opposite-split : (bases : List ℕ) (n : ℕ) → opposite bases ≡ opposite (drop n bases) ++ opposite (take n bases)
opposite-split bases n =
    ap opposite (sym (take-append-drop n bases))
    ∙ ap (map complement) (reverse-append (take n bases) (drop n bases))
    ∙ map-append complement (reverse (drop n bases)) (reverse (take n bases))

pub opposite-parts : (bases front back : List ℕ) (n : ℕ) → front ≡ take n bases → back ≡ drop n bases → opposite bases ≡ opposite back ++ opposite front
opposite-parts bases front back n before after =
    opposite-split bases n
    ∙ ap (λ (l : List ℕ). opposite l ++ opposite (take n bases)) (sym after)
    ∙ ap (λ (l : List ℕ). opposite back ++ opposite l) (sym before)
