-- What the entries of a list of chunks are, at an index and after an edit of one chunk.
use Rattle.std.proofs.Common.{◌≡◌, ℕ, suc, ◌+◌, ◌<◌, ◌≤◌, List, [], ◌∷◌, ◌++◌, length, take, drop, get_or, set, sym, ap, ◌∙◌, append_assoc, arith}
use Rattle.std.specs.Vec.{vec_items}
use Rattle.std.specs.List.{insert, remove}
use Rattle.std.specs.declared.vec.Vec.{Vec}
use Rattle.std.proofs.lemmas.List.{take-append-drop, drop_more, drop-append-le, take-append-le, set_split, length-drop, drop-drop, take_more}
use Rattle.std.proofs.lemmas.List.Concat.{flat_map-append}
use Rattle.std.proofs.lemmas.List.Elements.{All-append, All-take, All-drop, All-cons, All-set}
use Rattle.iv_ledger.specs.Inside.Chunks.{concatenated, before, from, IsFilled, AreFilled}
use Rattle.iv_ledger.specs.declared.entry_index.EntryIndex.{EntryIndex}

module _ {X Z : Type 0} (cs : List (Vec X Z)) where
  -- the entries before an index and those from it on are all
  pub before-from : (p : EntryIndex) → before cs p ++ from cs p ≡ concatenated cs
  before-from p =
      append_assoc (concatenated (take p.chunk cs)) (take p.index (concatenated (drop p.chunk cs))) (from cs p)
      ∙ ap (λ xs. concatenated (take p.chunk cs) ++ xs) (take-append-drop p.index (concatenated (drop p.chunk cs)))
      ∙ sym (flat_map-append vec_items (take p.chunk cs) (drop p.chunk cs))
      ∙ ap concatenated (take-append-drop p.chunk cs)

  -- the entries of the first chunks and those of the others are all
  pub concatenated-split : (n : ℕ) → concatenated cs ≡ concatenated (take n cs) ++ concatenated (drop n cs)
  concatenated-split n = ap concatenated (sym (take-append-drop n cs)) ∙ flat_map-append vec_items (take n cs) (drop n cs)

  module _ (c : ℕ) (x : Vec X Z) (in_range : c < length cs) (is : x ≡ get_or cs c x) where
    -- from a chunk on
    pub concatenated-drop : concatenated (drop c cs) ≡ vec_items x ++ concatenated (drop (c + 1) cs)
    concatenated-drop = ap concatenated (drop_more cs c x in_range) ∙ ap (λ y. vec_items y ++ concatenated (drop (c + 1) cs)) (sym is)

    -- the entries before a chunk, its own, and those after it are all
    pub concatenated-parts : concatenated cs ≡ concatenated (take c cs) ++ (vec_items x ++ concatenated (drop (c + 1) cs))
    concatenated-parts =
        ap concatenated (sym (take-append-drop c cs))
        ∙ flat_map-append vec_items (take c cs) (drop c cs)
        ∙ ap (λ xs. concatenated (take c cs) ++ xs) concatenated-drop

    module _ (i : ℕ) (within : i ≤ length (vec_items x)) where
      pub before_at : before cs (record { chunk = c; index = i }) ≡ concatenated (take c cs) ++ take i (vec_items x)
      before_at =
          ap (λ xs. concatenated (take c cs) ++ take i xs) concatenated-drop
          ∙ ap (λ xs. concatenated (take c cs) ++ xs) (take-append-le i (vec_items x) (concatenated (drop (c + 1) cs)) within)

      pub from_at : from cs (record { chunk = c; index = i }) ≡ drop i (vec_items x) ++ concatenated (drop (c + 1) cs)
      from_at = ap (λ xs. drop i xs) concatenated-drop ∙ drop-append-le i (vec_items x) (concatenated (drop (c + 1) cs)) within

    -- with another chunk in its place
    pub concatenated-set : (y : Vec X Z) → concatenated (set cs c y) ≡ concatenated (take c cs) ++ (vec_items y ++ concatenated (drop (c + 1) cs))
    concatenated-set y =
        let e : suc c ≡ c + 1 = omega arith in
        ap concatenated (set_split cs c y in_range)
        ∙ flat_map-append vec_items (take c cs) (y ∷ drop (suc c) cs)
        ∙ ap (λ n. concatenated (take c cs) ++ (vec_items y ++ concatenated (drop n cs))) e

    -- with a chunk of the same entries in its place nothing changes
    pub concatenated-set_same : (y : Vec X Z) → vec_items y ≡ vec_items x → concatenated (set cs c y) ≡ concatenated cs
    concatenated-set_same y same =
        concatenated-set y ∙ ap (λ xs. concatenated (take c cs) ++ (xs ++ concatenated (drop (c + 1) cs))) same ∙ sym concatenated-parts

    -- the chunk has other entries from an index on
    module _ (y : Vec X Z) (i : ℕ) (within : i ≤ length (vec_items x)) (zs : List X) (has : vec_items y ≡ take i (vec_items x) ++ zs) where
      -- all entries then
      pub concatenated-set_from : concatenated (set cs c y) ≡ before cs (record { chunk = c; index = i }) ++ (zs ++ concatenated (drop (c + 1) cs))
      concatenated-set_from =
          let rest = concatenated (drop (c + 1) cs) in
          concatenated-set y
          ∙ ap (λ xs. concatenated (take c cs) ++ (xs ++ rest)) has
          ∙ ap (λ xs. concatenated (take c cs) ++ xs) (append_assoc (take i (vec_items x)) zs rest)
          ∙ sym (append_assoc (concatenated (take c cs)) (take i (vec_items x)) (zs ++ rest))
          ∙ ap (λ xs. xs ++ (zs ++ rest)) (sym (before_at i within))

    module _ (y : Vec X Z) (i : ℕ) where
      -- with an entry put in
      pub concatenated-set_inserted : (e : X) → i ≤ length (vec_items x) → vec_items y ≡ insert (vec_items x) i e → concatenated (set cs c y) ≡ before cs (record { chunk = c; index = i }) ++ e ∷ from cs (record { chunk = c; index = i })
      concatenated-set_inserted e within has =
          concatenated-set_from y i within (e ∷ drop i (vec_items x)) has
          ∙ ap (λ xs. before cs (record { chunk = c; index = i }) ++ e ∷ xs) (sym (from_at i within))

      -- the entries after the one at an index
      pub from_next : i < length (vec_items x) → drop 1 (from cs (record { chunk = c; index = i })) ≡ drop (suc i) (vec_items x) ++ concatenated (drop (c + 1) cs)
      from_next within =
          let some : 1 ≤ length (drop i (vec_items x)) = omega (arith, length-drop i (vec_items x)) in
          let e : i + 1 ≡ suc i = omega arith in
          ap (λ xs. drop 1 xs) (from_at i (omega arith))
          ∙ drop-append-le 1 (drop i (vec_items x)) (concatenated (drop (c + 1) cs)) some
          ∙ ap (λ xs. xs ++ concatenated (drop (c + 1) cs)) (drop-drop 1 i (vec_items x) ∙ ap (λ n. drop n (vec_items x)) e)

      -- without an entry
      pub concatenated-set_removed : i < length (vec_items x) → vec_items y ≡ remove (vec_items x) i → concatenated (set cs c y) ≡ before cs (record { chunk = c; index = i }) ++ drop 1 (from cs (record { chunk = c; index = i }))
      concatenated-set_removed within has =
          concatenated-set_from y i (omega arith) (drop (suc i) (vec_items x)) has
          ∙ ap (λ xs. before cs (record { chunk = c; index = i }) ++ xs) (sym (from_next within))

      -- with another entry in the place of one
      pub concatenated-set_written : (e : X) → i < length (vec_items x) → vec_items y ≡ set (vec_items x) i e → concatenated (set cs c y) ≡ before cs (record { chunk = c; index = i }) ++ e ∷ drop 1 (from cs (record { chunk = c; index = i }))
      concatenated-set_written e within has =
          concatenated-set_from y i (omega arith) (e ∷ drop (suc i) (vec_items x)) (has ∙ set_split (vec_items x) i e within)
          ∙ ap (λ xs. before cs (record { chunk = c; index = i }) ++ e ∷ xs) (sym (from_next within))

      -- the entry at an index
      pub from_here : (e : X) → i < length (vec_items x) → e ≡ get_or (vec_items x) i e → from cs (record { chunk = c; index = i }) ≡ e ∷ drop 1 (from cs (record { chunk = c; index = i }))
      from_here e within same =
          let next : i + 1 ≡ suc i = omega arith in
          from_at i (omega arith)
          ∙ ap (λ xs. xs ++ concatenated (drop (c + 1) cs)) (drop_more (vec_items x) i e within)
          ∙ ap (λ n. get_or (vec_items x) i e ∷ (drop n (vec_items x) ++ concatenated (drop (c + 1) cs))) next
          ∙ ap (λ z. z ∷ (drop (suc i) (vec_items x) ++ concatenated (drop (c + 1) cs))) (sym same)
          ∙ ap (λ xs. e ∷ xs) (sym (from_next within))

      -- the entries before the next index
      pub before_next : (e : X) → i < length (vec_items x) → e ≡ get_or (vec_items x) i e → (m : ℕ) → m ≡ i + 1 → before cs (record { chunk = c; index = m }) ≡ before cs (record { chunk = c; index = i }) ++ e ∷ []
      before_next e within same m next =
          ap (λ n. before cs (record { chunk = c; index = n })) next
          ∙ before_at (i + 1) (omega arith)
          ∙ ap (λ xs. concatenated (take c cs) ++ xs) (take_more (vec_items x) i e within ∙ ap (λ f. take i (vec_items x) ++ f ∷ []) (sym same))
          ∙ sym (append_assoc (concatenated (take c cs)) (take i (vec_items x)) (e ∷ []))
          ∙ ap (λ xs. xs ++ e ∷ []) (sym (before_at i (omega arith)))

  -- a further chunk that has some entries
  pub filled-insert : (c : ℕ) (y : Vec X Z) → IsFilled y → AreFilled cs → AreFilled (insert cs c y)
  filled-insert c y some h =
      All-append IsFilled (take c cs) (y ∷ drop c cs) (All-take IsFilled c cs h) (All-cons IsFilled y (drop c cs) some (All-drop IsFilled c cs h))

  -- another chunk that has some entries, in the place of one
  pub filled-set : (c : ℕ) (y : Vec X Z) → IsFilled y → AreFilled cs → AreFilled (set cs c y)
  filled-set c y some h = All-set IsFilled cs c y some h
