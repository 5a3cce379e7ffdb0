-- The bases of a genome's sequences that are in one list, by rank.
use Rattle.std.proofs.Common.{◌≡◌, ℕ, ◌+◌, ◌-◌, ◌<◌, ◌≤◌, List, [], ◌∷◌, ◌++◌, Option, None, Some, length, take, drop, map, min, get_or, slice_get, subst, length-take, length-drop, refl, sym, ◌∙◌, ap, arith}
use Rattle.std.specs.Prelude.{All}
use Rattle.std.proofs.lemmas.List.{drop-take, drop-drop, take-take, take_more, map-append, same_lists, get_or-take, get_or-drop}
use Rattle.std.proofs.lemmas.List.Edits.{length-between}
use Rattle.std.proofs.lemmas.Option.{slice_get-map, slice_get_within, get_or_from_slice_get, unwrap_or-slice_get}
use Rattle.std.specs.List.{slice_range}
use Rattle.std.specs.Option.{option_map, unwrap_or}
use Rattle.iv_fasta.specs.Fasta.{Bases, bases_of}
use Rattle.iv_fasta.specs.Inside.BaseRanges.{bases_at, placed, EndsWithin, IsPlacedWithin}
use Rattle.iv_fasta.specs.declared.held_sequences.BaseRange.{BaseRange}

-- one more range
pub placed-more : (fasta : Bases) (ranges more : List (Option BaseRange)) (bases : List ℕ) (rank : ℕ) (range : Option BaseRange) → rank < length fasta
    → placed ranges bases ≡ take rank fasta → option_map (bases_at bases) range ≡ bases_of fasta rank → more ≡ ranges ++ range ∷ []
    → placed more bases ≡ take (rank + 1) fasta
placed-more fasta ranges more bases rank range within so_far is next =
    ap (map (option_map (bases_at bases))) next ∙ map-append (option_map (bases_at bases)) ranges (range ∷ [])
    ∙ ap (λ (l : Bases). l ++ option_map (bases_at bases) range ∷ []) so_far
    ∙ ap (λ (o : Option (List ℕ)). take rank fasta ++ o ∷ []) (is ∙ unwrap_or-slice_get fasta rank None)
    ∙ sym (take_more fasta rank None within)

placed-at : (ranges : List (Option BaseRange)) (bases : List ℕ) (seq : ℕ) (range : BaseRange) → Some range ≡ unwrap_or (slice_get ranges seq) None
    → bases_of (placed ranges bases) seq ≡ Some (bases_at bases range)
placed-at ranges bases seq range at =
    ap (λ (o : Option (Option (List ℕ))). unwrap_or o None) (slice_get-map (option_map (bases_at bases)) ranges seq) ∙ by (slice_get ranges seq) at
  where
    by : (o : Option (Option BaseRange)) → Some range ≡ unwrap_or o None → unwrap_or (option_map (option_map (bases_at bases)) o) None ≡ Some (bases_at bases range)
    by None is = cc
    by (Some None) is = cc
    by (Some (Some p)) is = let same : range ≡ p = cc in ap {B = Option (List ℕ)} (λ (q : BaseRange). Some (bases_at bases q)) (sym same)

-- if each range is among so many bases, so is one of them
is_placed-at : (ranges : List (Option BaseRange)) (total seq : ℕ) (range : BaseRange) (o : Option (Option BaseRange)) → All (IsPlacedWithin total) ranges → slice_get ranges seq ≡ o
    → Some range ≡ unwrap_or o None → EndsWithin total range
is_placed-at ranges total seq range None all at is = cc
is_placed-at ranges total seq range (Some None) all at is = cc
is_placed-at ranges total seq range (Some (Some p)) all at is =
    let same : range ≡ p = cc in
    subst (λ (q : BaseRange). EndsWithin total q) (sym same)
    (subst (λ (q : Option BaseRange). IsPlacedWithin total q) (get_or_from_slice_get ranges seq (Some p) None at) (all seq None (slice_get_within ranges seq (Some p) at)))

-- ---- a part of a sequence's bases

-- bounds past the end, or in the wrong order, may be cut down
range-cut : (bases : List ℕ) (start stop from to : ℕ) → to ≡ min (length bases) stop → from ≡ min to start → slice_range bases from to ≡ slice_range bases start stop
range-cut bases start stop from to is at =
    same_lists (slice_range bases from to) (slice_range bases start stop)
    (omega (arith, is, at, length-take (to - from) (drop from bases), length-take (stop - start) (drop start bases), length-drop from bases, length-drop start bases))
    (λ k d low.
    let within : k < to - from = omega (arith, low, length-take (to - from) (drop from bases)) in
    let same : from ≡ start = omega (arith, at, within) in
    let inside : k < stop - start = omega (arith, is, at, within) in
    get_or-take (to - from) (drop from bases) k d within ∙ get_or-drop from bases k d ∙ ap (λ (i : ℕ). get_or bases (i + k) d) same
    ∙ sym (get_or-take (stop - start) (drop start bases) k d inside ∙ get_or-drop start bases k d))

-- a part of a part
range-range : (bases : List ℕ) (from to start stop : ℕ) → start ≤ stop → stop ≤ to - from → slice_range (slice_range bases from to) start stop ≡ slice_range bases (from + start) (from + stop)
range-range bases from to start stop order within =
    let split : to - from ≡ start + (to - from - start) = omega arith in
    let long : stop - start ≡ from + stop - (from + start) = omega arith in
    ap (λ n. take (stop - start) (drop start (take n (drop from bases)))) split
    ∙ ap (take (stop - start)) (drop-take start (to - from - start) (drop from bases))
    ∙ take-take (stop - start) (to - from - start) (drop start (drop from bases)) (omega arith)
    ∙ ap (take (stop - start)) (drop-drop start from bases)
    ∙ ap (λ n. take n (drop (from + start) bases)) long

-- the part of a sequence's bases that is asked for
pub part-is : (fasta : Bases) (ranges : List (Option BaseRange)) (bases output : List ℕ) (seq start stop from to : ℕ) (range : BaseRange) → placed ranges bases ≡ fasta → output ≡ bases
    → All (IsPlacedWithin (length bases)) ranges → Some range ≡ unwrap_or (slice_get ranges seq) None → to ≡ min (range.stop - range.start) stop → from ≡ min to start
    → Some (slice_range output (range.start + from) (range.start + to)) ≡ option_map (λ b. slice_range b start stop) (bases_of fasta seq)
part-is fasta ranges bases output seq start stop from to range view same all at cut_to cut_from =
    let there : bases_of fasta seq ≡ Some (bases_at bases range) = ap (λ (f : Bases). bases_of f seq) (sym view) ∙ placed-at ranges bases seq range at in
    let is_placed : EndsWithin (length bases) range = is_placed-at ranges (length bases) seq range (slice_get ranges seq) all refl at in
    let long : length (bases_at bases range) ≡ range.stop - range.start = length-between bases range.start range.stop is_placed.in_bounds in
    ap {B = Option (List ℕ)} (λ (l : List ℕ). Some (slice_range l (range.start + from) (range.start + to))) same
    ∙ ap {B = Option (List ℕ)} (λ (l : List ℕ). Some l)
    (sym (range-range bases range.start range.stop from to (omega (arith, cut_from)) (omega (arith, cut_to)))
    ∙ range-cut (bases_at bases range) start stop from to (omega (arith, cut_to, long)) cut_from)
    ∙ ap (option_map (λ b. slice_range b start stop)) (sym there)
