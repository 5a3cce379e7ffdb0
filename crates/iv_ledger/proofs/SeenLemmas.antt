-- Lists and chunks with what their keys mean.
use Rattle.std.proofs.Common.{◌≡◌, ℕ, zero, suc, ◌+◌, ◌<◌, ◌≤◌, Bool, List, [], ◌∷◌, ◌++◌, Option, length, take, drop, map, get_or, refl, sym, ap, ◌∙◌, subst, arith, vec_len}
use Rattle.std.specs.Vec.{vec_items}
use Rattle.std.specs.List.{AllWithin, HoldsAt, slice_get}
use Rattle.std.specs.List.Sorted.{IsPartitionedBy, IsPartitionPoint, IsNonDecreasingBy}
use Rattle.std.specs.declared.vec.Vec.{Vec}
use Rattle.std.proofs.lemmas.List.{length-map, map-append, take-map, drop-map, get_or-map}
use Rattle.std.proofs.lemmas.List.Elements.{All-map}
use Rattle.std.proofs.lemmas.Option.{slice_get-map}
use Rattle.std.specs.Option.{option_map}
use Rattle.iv_ledger.specs.Inside.Chunks.{concatenated, before, from, IsFilled, AreFilled, IsInside, IsWithin}
use Rattle.iv_ledger.specs.Inside.Seen.{seen, seen_chunk, seen_chunks}
use Rattle.iv_ledger.specs.declared.entry_index.EntryIndex.{EntryIndex}

module _ {X Y : Type 0} (f : X → Y) where
  pub get_seen : (xs : List X) (i : ℕ) (d : X) → get_or (map f xs) i (f d) ≡ f (get_or xs i d)
  get_seen [] i d = refl
  get_seen (x ∷ xs) zero d = refl
  get_seen (x ∷ xs) (suc i) d = get_seen xs i d

  -- what is read at an index
  pub seen_at : (xs : List X) (i : ℕ) (x : X) → x ≡ get_or xs i x → f x ≡ get_or (map f xs) i (f x)
  seen_at xs i x is = ap f is ∙ sym (get_seen xs i x)

  pub within_seen : (P : Y → Type 0) (xs : List X) (low high : ℕ) → high ≤ length xs → AllWithin (λ x. P (f x)) xs low high → AllWithin P (map f xs) low high
  within_seen P [] low high le h = λ k d from to. absurd (omega arith)
  within_seen P (x ∷ xs) low high le h = λ k d from to. subst P (sym (get_or-map f (x ∷ xs) k x d (omega arith))) (h k x from to)

  pub holds_seen : (P : Y → Type 0) (xs : List X) (i : ℕ) → i < length xs → HoldsAt (λ x. P (f x)) xs i → HoldsAt P (map f xs) i
  holds_seen P xs i lt h = λ d. within_seen P xs i (i + 1) (omega arith) (λ k e from to. subst (λ (n : ℕ). P (f (get_or xs n e))) (same i k from to) (h e)) i d (omega arith) (omega arith)
    where
      same : (i k : ℕ) → i ≤ k → k < i + 1 → i ≡ k
      same i k from to = omega arith

  pub parted_back : (t : Y → Bool) (xs : List X) → IsPartitionedBy t (map f xs) → IsPartitionedBy (λ x. t (f x)) xs
  parted_back t xs h = λ i j d le lt is.
      ap t (sym (get_seen xs i d)) ∙ h i j (f d) le (omega (arith, length-map xs f)) (ap t (get_seen xs j d) ∙ is)

  pub rises_back : (n : Y → ℕ) (xs : List X) → IsNonDecreasingBy n (map f xs) → IsNonDecreasingBy (λ x. n (f x)) xs
  rises_back n xs h = λ i j d le lt.
      let up = h i j (f d) le (omega (arith, length-map xs f)) in
      omega (arith, up, ap n (get_seen xs i d), ap n (get_seen xs j d))

  -- a search among things is one among what they mean
  pub point_seen : (P Q : Y → Type 0) (xs : List X) (n : ℕ) → n ≤ length xs → IsPartitionPoint (λ x. P (f x)) (λ x. Q (f x)) xs n → IsPartitionPoint P Q (map f xs) n
  point_seen P Q xs n le h =
      (within_seen P xs 0 n le h.0, subst (λ (m : ℕ). AllWithin Q (map f xs) n m) (sym (length-map xs f)) (within_seen Q xs n (length xs) (omega arith) h.1))

module _ {K S V Z : Type 0} (read : K → S) where
  -- all entries, and those before an index and from it on
  pub seen-all : (cs : List (Vec (K × V) Z)) → concatenated (seen_chunks read cs) ≡ map (seen read) (concatenated cs)
  seen-all [] = refl
  seen-all (c ∷ cs) = ap (λ (es : List (S × V)). map (seen read) (vec_items c) ++ es) (seen-all cs) ∙ sym (map-append (seen read) (vec_items c) (concatenated cs))

  pub seen-from : (cs : List (Vec (K × V) Z)) (p : EntryIndex) → from (seen_chunks read cs) p ≡ map (seen read) (from cs p)
  seen-from cs p =
      ap (λ (ds : List (Vec (S × V) Z)). drop p.index (concatenated ds)) (drop-map (seen_chunk read) p.chunk cs)
      ∙ ap (drop p.index) (seen-all (drop p.chunk cs))
      ∙ drop-map (seen read) p.index (concatenated (drop p.chunk cs))

  pub seen-before : (cs : List (Vec (K × V) Z)) (p : EntryIndex) → before (seen_chunks read cs) p ≡ map (seen read) (before cs p)
  seen-before cs p =
      let first : concatenated (take p.chunk (seen_chunks read cs)) ≡ map (seen read) (concatenated (take p.chunk cs)) =
      ap concatenated (take-map (seen_chunk read) p.chunk cs) ∙ seen-all (take p.chunk cs) in
      let next : take p.index (concatenated (drop p.chunk (seen_chunks read cs))) ≡ map (seen read) (take p.index (concatenated (drop p.chunk cs))) =
      ap (λ (ds : List (Vec (S × V) Z)). take p.index (concatenated ds)) (drop-map (seen_chunk read) p.chunk cs)
      ∙ ap (take p.index) (seen-all (drop p.chunk cs))
      ∙ take-map (seen read) p.index (concatenated (drop p.chunk cs)) in
      (λ i. first i ++ next i) ∙ sym (map-append (seen read) (concatenated (take p.chunk cs)) (take p.index (concatenated (drop p.chunk cs))))

  pub filled-seen : (cs : List (Vec (K × V) Z)) → AreFilled cs → AreFilled (seen_chunks read cs)
  filled-seen cs h = All-map IsFilled (seen_chunk read) cs h

  -- indexes are the same
  pub inside-seen : (cs : List (Vec (K × V) Z)) (p : EntryIndex) → IsInside (seen_chunks read cs) p → IsInside cs p
  inside-seen cs p h = record {
    chunk_in_range = omega (arith, h.chunk_in_range, length-map cs (seen_chunk read));
    index_in_range = λ d. subst (λ (y : Vec (S × V) Z). p.index < vec_len y) (get_seen (seen_chunk read) cs p.chunk d) (h.index_in_range (seen_chunk read d));
  }

  pub within-seen : (cs : List (Vec (K × V) Z)) (p : EntryIndex) → IsWithin (seen_chunks read cs) p → IsWithin cs p
  within-seen cs p h = record {
    chunk_in_range = λ some. omega (arith, h.chunk_in_range (omega (arith, length-map cs (seen_chunk read))), length-map cs (seen_chunk read));
    index_in_range = λ some d. subst (λ (y : Vec (S × V) Z). p.index ≤ vec_len y) (get_seen (seen_chunk read) cs p.chunk d) (h.index_in_range (omega (arith, length-map cs (seen_chunk read))) (seen_chunk read d));
  }

  pub within-back : (cs : List (Vec (K × V) Z)) (p : EntryIndex) → IsWithin cs p → IsWithin (seen_chunks read cs) p
  within-back [] p h = record { chunk_in_range = λ some. absurd (omega arith); index_in_range = λ some d. absurd (omega arith) }
  within-back (c ∷ cs) p h =
      let some : 0 < length (c ∷ cs) = omega arith in
      let in_range : p.chunk < length (c ∷ cs) = h.chunk_in_range some in
      record {
        chunk_in_range = λ _. omega (arith, in_range, length-map (c ∷ cs) (seen_chunk read));
        index_in_range = λ _. holds_seen (seen_chunk read) (λ y. p.index ≤ vec_len y) (c ∷ cs) p.chunk in_range (h.index_in_range some);
      }

  -- the first entry from an index on
  pub first-seen : (cs : List (Vec (K × V) Z)) (p : EntryIndex) (r : Option (K × V)) → r ≡ slice_get (from cs p) 0 → option_map (seen read) r ≡ slice_get (from (seen_chunks read cs) p) 0
  first-seen cs p r is =
      ap (option_map (seen read)) is ∙ sym (slice_get-map (seen read) (from cs p) 0) ∙ ap (λ (es : List (S × V)). slice_get es 0) (sym (seen-from cs p))

-- entries whose keys are read as they are, as in their natural order: so `LedgerBuilder::finish` gives the entries that were pushed
pub seen-same : {K V : Type 0} (es : List (K × V)) → map (seen (λ (k : K). k)) es ≡ es
seen-same [] = refl
seen-same {K = K} {V = V} (e ∷ es) = ap (λ (fs : List (K × V)). e ∷ fs) (seen-same es)
