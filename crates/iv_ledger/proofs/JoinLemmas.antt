-- Two chunks beside each other that became one.
use Rattle.std.proofs.Common.{◌≡◌, ℕ, suc, ◌+◌, ◌<◌, ◌≤◌, List, [], ◌∷◌, ◌++◌, length, take, drop, get_or, set, sym, ap, ◌∙◌, subst, append_assoc, arith, vec_len, vec_capacity}
use Rattle.std.specs.Vec.{vec_items}
use Rattle.std.specs.List.{remove}
use Rattle.std.specs.declared.vec.Vec.{Vec}
use Rattle.std.proofs.lemmas.List.{take-append-drop, take-append-le, take_at, drop_at, take_more, drop_more, take-take, set_split, append-nil, get_or_append_left, get_or-take, length-append, length-take-le}
use Rattle.std.proofs.lemmas.List.Concat.{flat_map-append}
use Rattle.std.proofs.lemmas.List.Elements.{All-append, All-take, All-drop}
use Rattle.iv_ledger.specs.Inside.Chunks.{concatenated, AreFilled, AreSmall, IsFilled, most_in_chunk}
use Rattle.iv_ledger.specs.Inside.Replaced.{IsReplaced}
use Rattle.iv_ledger.proofs.ChunkLemmas.{concatenated-set, filled-set}

-- the chunk after the chunk c was taken out
module _ {X Z : Type 0} {old : List (Vec X Z)} {c : ℕ} (small : AreSmall old c) where
  lt : c + 1 < length old
  lt = small.next_in_range

  -- the number of chunks up to c
  len : length (take (c + 1) old) ≡ c + 1
  len = length-take-le (c + 1) old (omega (arith, lt))

  -- the chunks up to c
  front : take (c + 1) (remove old (c + 1)) ≡ take (c + 1) old
  front = take_at (take (c + 1) old) (drop (suc (c + 1)) old) (c + 1) len

  -- and those after the one that was taken out
  back : drop (c + 1) (remove old (c + 1)) ≡ drop (suc (c + 1)) old
  back = drop_at (take (c + 1) old) (drop (suc (c + 1)) old) (c + 1) len

  -- c is one of those left
  left : c < length (remove old (c + 1))
  left =
      let all : c < length (take (c + 1) old ++ drop (suc (c + 1)) old) = omega (arith, len, length-append (take (c + 1) old) (drop (suc (c + 1)) old)) in
      all

  -- it is the same
  same_chunk : (d : Vec X Z) → get_or (remove old (c + 1)) c d ≡ get_or old c d
  same_chunk d = get_or_append_left (take (c + 1) old) (drop (suc (c + 1)) old) d c (omega (arith, len)) ∙ get_or-take (c + 1) old c d (omega arith)

  module _ {x y : Vec X Z} (is_x : x ≡ get_or (remove old (c + 1)) c x) (is_y : y ≡ get_or old (c + 1) y) where
    -- both have few entries
    few : (vec_len x + vec_len y ≤ most_in_chunk) × (vec_len x + vec_len y ≤ vec_capacity x)
    few =
        subst (λ v. (vec_len v + vec_len y ≤ most_in_chunk) × (vec_len v + vec_len y ≤ vec_capacity v)) (sym (is_x ∙ same_chunk x)) (
        subst (λ w. (vec_len (get_or old c x) + vec_len w ≤ most_in_chunk) × (vec_len (get_or old c x) + vec_len w ≤ vec_capacity (get_or old c x))) (sym is_y) (small.few x y)
        )

    -- all chunks as before: the one that was taken out is among the others
    whole : old ≡ take (c + 1) (remove old (c + 1)) ++ y ∷ drop (c + 1) (remove old (c + 1))
    whole =
        let next : c + 1 + 1 ≡ suc (c + 1) = omega arith in
        sym (take-append-drop (c + 1) old)
        ∙ ap (λ cs. take (c + 1) old ++ cs) (drop_more old (c + 1) y lt ∙ ap (λ n. get_or old (c + 1) y ∷ drop n old) next ∙ ap (λ v. v ∷ drop (suc (c + 1)) old) (sym is_y))
        ∙ ap (λ cs. cs ++ y ∷ drop (suc (c + 1)) old) (sym front)
        ∙ ap (λ cs. take (c + 1) (remove old (c + 1)) ++ y ∷ cs) (sym back)

    module _ (z : Vec X Z) (has : vec_items z ≡ vec_items x ++ vec_items y) where
      -- no entry is lost, and none moves past another
      pub join_same : concatenated (set (remove old (c + 1)) c z) ≡ concatenated old
      join_same =
          let cs = remove old (c + 1) in
          let rest = concatenated (drop (c + 1) cs) in
          concatenated-set cs c x left is_x z
          ∙ ap (λ es. concatenated (take c cs) ++ (es ++ rest)) has
          ∙ ap (λ es. concatenated (take c cs) ++ es) (append_assoc (vec_items x) (vec_items y) rest)
          ∙ sym (append_assoc (concatenated (take c cs)) (vec_items x) (vec_items y ++ rest))
          ∙ ap (λ es. (concatenated (take c cs) ++ es) ++ (vec_items y ++ rest)) (sym (append-nil (vec_items x)))
          ∙ ap (λ es. es ++ (vec_items y ++ rest)) (sym (flat_map-append vec_items (take c cs) (x ∷ [])))
          ∙ ap (λ v. concatenated (take c cs ++ v ∷ []) ++ (vec_items y ++ rest)) is_x
          ∙ ap (λ ds. concatenated ds ++ (vec_items y ++ rest)) (sym (take_more cs c x left))
          ∙ sym (flat_map-append vec_items (take (c + 1) cs) (y ∷ drop (c + 1) cs))
          ∙ ap concatenated (sym whole)

      -- no chunk is empty or too full
      pub join_filled : AreFilled old → AreFilled (set (remove old (c + 1)) c z)
      join_filled filled =
          let some : IsFilled y = subst IsFilled (sym is_y) (filled (c + 1) y lt) in
          let full : IsFilled z = (
            omega (arith, some.0, z.ok.0, x.ok.0, y.ok.0, ap length has, length-append (vec_items x) (vec_items y)),
            omega (arith, few.0, z.ok.0, x.ok.0, y.ok.0, ap length has, length-append (vec_items x) (vec_items y)),
          ) in
          filled-set (remove old (c + 1)) c z full (All-append IsFilled (take (c + 1) old) (drop (suc (c + 1)) old) (All-take IsFilled (c + 1) old filled) (All-drop IsFilled (suc (c + 1)) old filled))

      -- the other chunks are the same
      pub join_replaced : IsReplaced old c 2 1 (set (remove old (c + 1)) c z)
      join_replaced =
          let next : suc c ≡ c + 1 = omega arith in
          let after : suc (c + 1) ≡ c + 2 = omega arith in
          record {
            others = z ∷ [];
            few = omega arith;
            are =
                set_split (remove old (c + 1)) c z left
                ∙ ap (λ cs. cs ++ z ∷ drop (suc c) (remove old (c + 1))) (take-append-le c (take (c + 1) old) (drop (suc (c + 1)) old) (omega (arith, len)) ∙ take-take c (c + 1) old (omega arith))
                ∙ ap (λ n. take c old ++ z ∷ drop n (remove old (c + 1))) next
                ∙ ap (λ cs. take c old ++ z ∷ cs) (back ∙ ap (λ n. drop n old) after);
          }
