-- An index in a list of chunks of which one was split.
use Rattle.std.proofs.Common.{◌≡◌, ℕ, suc, ◌+◌, ◌-◌, ◌/◌, ◌<◌, ◌≤◌, List, [], ◌∷◌, ◌++◌, length, take, drop, get_or, set, sym, ap, ◌∙◌, subst, append_assoc, arith, vec_len, Result, Ok, Err}
use Rattle.std.specs.Result.{OnErr}
use Rattle.std.specs.Vec.{vec_items}
use Rattle.std.specs.declared.vec.Vec.{Vec}
use Rattle.std.proofs.Math.Seq.{take-add}
use Rattle.std.proofs.lemmas.List.{take-append-drop, take-append-le, drop-append-le, take_at, drop_at, get_or_at, take_more_set, drop-set-lt, take-take, drop-drop, append-nil, length-append, length-take-le, length-drop, length_push}
use Rattle.std.proofs.lemmas.List.Concat.{flat_map-append}
use Rattle.iv_ledger.specs.Inside.Chunks.{concatenated, before, from, IsFilled, AreFilled, IsSplit, IsWithin, IsIndexWithRoom, most_in_chunk}
use Rattle.iv_ledger.specs.Inside.Replaced.{IsAmong}
use Rattle.iv_ledger.proofs.ChunkLemmas.{before_at, from_at, filled-insert, filled-set}

-- an index in a chunk between others
module _ {X Z : Type 0} (p : List (Vec X Z)) (y : Vec X Z) (q : List (Vec X Z)) (m i : ℕ) (at : length p ≡ m) (within : i ≤ length (vec_items y)) where
  -- the entries before it
  before_part : before (p ++ y ∷ q) (record { chunk = m; index = i }) ≡ concatenated p ++ take i (vec_items y)
  before_part =
      ap (λ cs. concatenated cs ++ take i (concatenated (drop m (p ++ y ∷ q)))) (take_at p (y ∷ q) m at)
      ∙ ap (λ cs. concatenated p ++ take i (concatenated cs)) (drop_at p (y ∷ q) m at)
      ∙ ap (λ xs. concatenated p ++ xs) (take-append-le i (vec_items y) (concatenated q) within)

  -- and those from it on
  from_part : from (p ++ y ∷ q) (record { chunk = m; index = i }) ≡ drop i (vec_items y) ++ concatenated q
  from_part = ap (λ cs. drop i (concatenated cs)) (drop_at p (y ∷ q) m at) ∙ drop-append-le i (vec_items y) (concatenated q) within

-- a chunk that is full is split in its middle
module _ {X Z : Type 0} {old : List (Vec X Z)} {c n size : ℕ} {new : List (Vec X Z)} {x : Vec X Z} (split : IsSplit old c n new)
    (is : x ≡ get_or old c x) (counted : size ≡ vec_len x) (lt : c < length old) (filled : AreFilled old) (middle : n ≡ size / 2) (large : most_in_chunk ≤ size) where
  -- the middle is neither the start nor the end, and both parts have room
  sizes : (0 < n) × (n < vec_len x) × (n < most_in_chunk) × (vec_len x < n + most_in_chunk)
  sizes = let full : IsFilled x = subst IsFilled (sym is) (filled c x lt) in (omega (arith, full), omega (arith, full), omega (arith, full), omega (arith, full))

  -- the entries of the first part
  first : vec_items split.left ≡ take n (vec_items x)
  first = subst (λ y. vec_items split.left ≡ take n (vec_items y)) (sym is) (split.first x)

  -- the entries of the second
  others : vec_items split.right ≡ drop n (vec_items x)
  others = subst (λ y. vec_items split.right ≡ drop n (vec_items y)) (sym is) (split.others x)

  -- the number of entries in the chunk
  len : vec_len x ≡ length (vec_items x)
  len = x.ok.0

  -- the number in the first part
  left_len : length (vec_items split.left) ≡ n
  left_len = ap length first ∙ length-take-le n (vec_items x) (omega (arith, sizes, len))

  -- the number in the second
  right_len : length (vec_items split.right) + n ≡ length (vec_items x)
  right_len = omega (arith, sizes, ap length others, length-drop n (vec_items x), len)

  -- no chunk is empty or too full then
  pub filled_split : AreFilled new
  filled_split =
      let l : IsFilled split.left = (omega (arith, sizes, left_len, split.left.ok.0), omega (arith, sizes, left_len, split.left.ok.0)) in
      let r : IsFilled split.right = (omega (arith, sizes, right_len, split.right.ok.0, len), omega (arith, sizes, right_len, split.right.ok.0, len)) in
      subst AreFilled (sym split.are) (filled-insert (set old c split.left) (c + 1) split.right r (filled-set old c split.left l filled))

  -- the chunks: those before, the first part, the second, and those after
  parts : new ≡ (take c old ++ split.left ∷ []) ++ split.right ∷ drop (c + 1) old
  parts =
      split.are
      ∙ ap (λ cs. cs ++ split.right ∷ drop (c + 1) (set old c split.left)) (take_more_set old c split.left lt)
      ∙ ap (λ cs. (take c old ++ split.left ∷ []) ++ split.right ∷ cs) (drop-set-lt (c + 1) old c split.left (omega arith))

  -- the same with the two parts together
  parts_left : new ≡ take c old ++ split.left ∷ split.right ∷ drop (c + 1) old
  parts_left = parts ∙ append_assoc (take c old) (split.left ∷ []) (split.right ∷ drop (c + 1) old)

  -- the other chunks are the same
  pub split_among : (q : ℕ) → c ≤ q → q < c + 2 → IsAmong old c 1 2 new q
  split_among q no_less below = record {
    replaced = record { others = split.left ∷ split.right ∷ []; few = omega arith; are = parts_left };
    no_less = no_less;
    below = below;
  }

  -- the number of chunks before
  front_len : length (take c old) ≡ c
  front_len = length-take-le c old (omega arith)

  -- the number of chunks up to the first part
  both_len : length (take c old ++ split.left ∷ []) ≡ c + 1
  both_len = length_push (take c old) split.left ∙ ap (λ m. m + 1) front_len

  -- the number of all chunks
  new_len : length new ≡ c + 1 + suc (length (drop (c + 1) old))
  new_len = ap length parts ∙ length-append (take c old ++ split.left ∷ []) (split.right ∷ drop (c + 1) old) ∙ ap (λ m. m + suc (length (drop (c + 1) old))) both_len

  -- the first part is where the chunk was
  left_at : (d : Vec X Z) → get_or new c d ≡ split.left
  left_at d = ap (λ cs. get_or cs c d) parts_left ∙ get_or_at (take c old) split.left (split.right ∷ drop (c + 1) old) d c front_len

  -- and the second is after it
  right_at : (d : Vec X Z) → get_or new (c + 1) d ≡ split.right
  right_at d = ap (λ cs. get_or cs (c + 1) d) parts ∙ get_or_at (take c old ++ split.left ∷ []) split.right (drop (c + 1) old) d (c + 1) both_len

  -- an index in the first part
  pub room_left : (i : ℕ) → i ≤ n → IsIndexWithRoom old (record { chunk = c; index = i }) new (record { chunk = c; index = i })
  room_left i le =
      let rest_items = concatenated (drop (c + 1) old) in
      record {
        chunk_in_range = omega (arith, sizes, new_len);
        index_in_range = λ d. subst (λ y. i ≤ vec_len y) (sym (left_at d)) (omega (arith, sizes, left_len, split.left.ok.0));
        has_room = λ d. subst (λ y. vec_len y < most_in_chunk) (sym (left_at d)) (omega (arith, sizes, left_len, split.left.ok.0));
        same_before =
            ap (λ cs. before cs (record { chunk = c; index = i })) parts_left
            ∙ before_part (take c old) split.left (split.right ∷ drop (c + 1) old) c i front_len (omega (arith, sizes, left_len))
            ∙ ap (λ ys. concatenated (take c old) ++ take i ys) first
            ∙ ap (λ ys. concatenated (take c old) ++ ys) (take-take i n (vec_items x) le)
            ∙ sym (before_at old c x lt is i (omega (arith, sizes, len)));
        same_from =
            ap (λ cs. from cs (record { chunk = c; index = i })) parts_left
            ∙ from_part (take c old) split.left (split.right ∷ drop (c + 1) old) c i front_len (omega (arith, sizes, left_len))
            ∙ ap (λ ys. drop i ys ++ (vec_items split.right ++ rest_items)) first
            ∙ ap (λ ys. drop i (take n (vec_items x)) ++ (ys ++ rest_items)) others
            ∙ sym (append_assoc (drop i (take n (vec_items x))) (drop n (vec_items x)) rest_items)
            ∙ ap (λ ys. ys ++ rest_items) (
            sym (drop-append-le i (take n (vec_items x)) (drop n (vec_items x)) (omega (arith, sizes, length-take-le n (vec_items x) (omega (arith, sizes, len)))))
            ∙ ap (drop i) (take-append-drop n (vec_items x))
            )
            ∙ sym (from_at old c x lt is i (omega (arith, sizes, len)));
      }

  -- an index in the second
  room_after : (j : ℕ) → n + j ≤ vec_len x → IsIndexWithRoom old (record { chunk = c; index = n + j }) new (record { chunk = c + 1; index = j })
  room_after j le =
      let rest_items = concatenated (drop (c + 1) old) in
      record {
        chunk_in_range = omega (arith, sizes, new_len);
        index_in_range = λ d. subst (λ y. j ≤ vec_len y) (sym (right_at d)) (omega (arith, sizes, right_len, split.right.ok.0, len));
        has_room = λ d. subst (λ y. vec_len y < most_in_chunk) (sym (right_at d)) (omega (arith, sizes, right_len, split.right.ok.0, len));
        same_before =
            ap (λ cs. before cs (record { chunk = c + 1; index = j })) parts
            ∙ before_part (take c old ++ split.left ∷ []) split.right (drop (c + 1) old) (c + 1) j both_len (omega (arith, sizes, right_len, len))
            ∙ ap (λ ys. ys ++ take j (vec_items split.right)) (flat_map-append vec_items (take c old) (split.left ∷ []) ∙ ap (λ ys. concatenated (take c old) ++ ys) (append-nil (vec_items split.left)))
            ∙ append_assoc (concatenated (take c old)) (vec_items split.left) (take j (vec_items split.right))
            ∙ ap (λ ys. concatenated (take c old) ++ (ys ++ take j (vec_items split.right))) first
            ∙ ap (λ ys. concatenated (take c old) ++ (take n (vec_items x) ++ take j ys)) others
            ∙ ap (λ ys. concatenated (take c old) ++ ys) (sym (take-add n j (vec_items x)))
            ∙ sym (before_at old c x lt is (n + j) (omega (arith, sizes, len)));
        same_from =
            ap (λ cs. from cs (record { chunk = c + 1; index = j })) parts
            ∙ from_part (take c old ++ split.left ∷ []) split.right (drop (c + 1) old) (c + 1) j both_len (omega (arith, sizes, right_len, len))
            ∙ ap (λ ys. drop j ys ++ rest_items) others
            ∙ ap (λ ys. ys ++ rest_items) (drop-drop j n (vec_items x))
            ∙ sym (from_at old c x lt is (n + j) (omega (arith, sizes, len)));
      }

  -- an index after the middle is one in the second part
  pub room_right : (i : ℕ) → n ≤ i → IsWithin old (record { chunk = c; index = i }) → IsIndexWithRoom old (record { chunk = c; index = i }) new (record { chunk = c + 1; index = i - n })
  room_right i above within =
      let bound = subst (λ y. i ≤ vec_len y) (sym is) (within.index_in_range (omega arith) x) in
      subst (λ (m : ℕ). IsIndexWithRoom old (record { chunk = c; index = m }) new (record { chunk = c + 1; index = i - n })) (omega arith) (room_after (i - n) (omega (arith, bound)))

-- what holds anyway
pub always_on_err : {T E P : Type 0} (r : Result T E) → P → OnErr r P
always_on_err (Ok x) h = tt
always_on_err (Err e) h = h
