-- What a search finds in a list of chunks.
use Rattle.std.proofs.Common.{◌≡◌, ℕ, zero, suc, ◌+◌, ◌<◌, ◌≤◌, true, false, List, [], ◌∷◌, ◌++◌, length, take, drop, get_or, refl, sym, ap, ◌∙◌, subst, arith, vec_len}
use mathlib.Core.Bool.{true≢false}
use Rattle.std.specs.Prelude.{All, IfSome}
use Rattle.std.specs.Vec.{vec_items}
use Rattle.std.specs.Cmp.{IsTotalOrder}
use Rattle.std.specs.List.{AllByRecursion, AllWithin, HoldsAt, slice_get}
use Rattle.std.specs.List.Sorted.{IsPartitionedBy, IsPartitionPoint, IsNonDecreasingBy}
use Rattle.std.specs.Ordering.{is_ge, is_gt, ordering_reverse, ordering_index}
use Rattle.std.specs.declared.cmp.Ordering.{Ordering}
use Rattle.std.specs.declared.cmp.Ordering.TheVariants.{Less, Equal, Greater}
use Rattle.std.specs.declared.vec.Vec.{Vec}
use Rattle.std.proofs.lemmas.Cmp.{tied_back}
use Rattle.std.specs.Map.{keys_of}
use Rattle.std.specs.Ordering.{is_lt}
use Rattle.std.proofs.lemmas.List.{length-take-le, length-drop, length-map, get_or-take, get_or-drop, get_or-map}
use Rattle.std.proofs.lemmas.List.Sorted.{searchable_from_sorted}
use Rattle.std.proofs.lemmas.Map.Keys.{Less-from_sorted}
use Rattle.std.proofs.lemmas.List.Elements.{All-from_recursion, recursion_from_All, All-nil, All-cons, All-append, at_read}
use Rattle.iv_ledger.specs.Inside.Chunks.{concatenated, before, from, AreChunks, IsGap, IsFound, starts_by}
use Rattle.iv_ledger.specs.Entries.{IsLedger}
use Rattle.iv_ledger.specs.declared.entry_index.EntryIndex.{EntryIndex}
use Rattle.iv_ledger.proofs.Splits.{IsBelow, IsAbove, all_front, all_back, all_both, weaken, around_below, ledger_head, ledger_tail, ledger_nil, ledger_cons}
use Rattle.iv_ledger.proofs.ChunkLemmas.{concatenated-split, concatenated-parts, before_at, from_at, from_here, before_next, before-from}

-- what is not at or after is before
less_from_not_ge : (r : Ordering) → is_ge r ≡ false → r ≡ Less
less_from_not_ge Less h = refl
less_from_not_ge Equal h = absurd (true≢false h)
less_from_not_ge Greater h = absurd (true≢false h)

-- the test for before
pub less_from_lt : (r : Ordering) → is_lt r ≡ true → r ≡ Less
less_from_lt Less h = refl
less_from_lt Equal h = absurd (true≢false (sym h))
less_from_lt Greater h = absurd (true≢false (sym h))

-- the test for after
pub greater_from_gt : (r : Ordering) → is_gt r ≡ true → r ≡ Greater
greater_from_gt Greater h = refl
greater_from_gt Equal h = absurd (true≢false (sym h))
greater_from_gt Less h = absurd (true≢false (sym h))

-- the key is at an index of a chunk
pub found_near : {K V Z : Type 0} (cmp : K → K → Ordering) (k : K) (cs : List (Vec (K × V) Z)) (c : ℕ) (x : Vec (K × V) Z) → c < length cs → x ≡ get_or cs c x → (i : ℕ) → i < length (vec_items x) → HoldsAt (λ e. cmp k e.0 ≡ Equal) (vec_items x) i → IsFound cmp cs k (record { chunk = c; index = i })
found_near cmp k cs c x lt read i bound equal = record {
  inside = record { chunk_in_range = lt; index_in_range = at_read cs (λ y. i < vec_len y) c x lt read (omega (arith, x.ok.0, bound)) };
  has_key = at_read cs (λ y. HoldsAt (λ e. cmp k e.0 ≡ Equal) (vec_items y) i) c x lt read equal;
}

module _ {K : Type 0} {cmp : K → K → Ordering} (o : IsTotalOrder cmp) where
  -- a comparison the other way round
  pub turned : (x y : K) (r : Ordering) → cmp x y ≡ r → cmp y x ≡ ordering_reverse r
  turned x y r h = o.antisymm y x ∙ ap ordering_reverse h

  -- e is below f, and f is not above k
  pub past : (k e f : K) (r : Ordering) → cmp k f ≡ r → is_ge r ≡ true → cmp e f ≡ Less → cmp k e ≡ Greater
  past k e f Less is ge less = absurd (true≢false (sym ge))
  past k e f Equal is ge less = o.congr k f e is ∙ turned e f Less less
  past k e f Greater is ge less = turned e k Less (o.trans e f k less (turned k f Greater is))

module _ {K V : Type 0} {cmp : K → K → Ordering} (o : IsTotalOrder cmp) where
  -- the first of some entries in order are in order
  pub ledger_front : (front back : List (K × V)) → IsLedger cmp (front ++ back) → IsLedger cmp front
  ledger_front [] back s = ledger_nil K V cmp
  ledger_front (e ∷ front) back s =
      ledger_cons o e front (all_front (λ f. cmp e.0 f.0 ≡ Less) front back (ledger_head o e (front ++ back) s)) (ledger_front front back (ledger_tail o e (front ++ back) s))

  -- and so are the last ones
  pub ledger_back : (front back : List (K × V)) → IsLedger cmp (front ++ back) → IsLedger cmp back
  ledger_back [] back s = s
  ledger_back (e ∷ front) back s = ledger_back front back (ledger_tail o e (front ++ back) s)

  module _ (k : K) where
    -- the entries of a chunk that starts above k
    chunk_above : (xs : List (K × V)) → IsLedger cmp xs → starts_by cmp k xs ≡ false → AllByRecursion (IsAbove cmp k) xs
    chunk_above [] s h = tt
    chunk_above (e ∷ es) s h =
        let above = less_from_not_ge (cmp k e.0) h in
        (above, weaken (λ f. cmp e.0 f.0 ≡ Less) (IsAbove cmp k) (λ f less. o.trans k e.0 f.0 above less) es (ledger_head o e es s))

    -- a chunk starts by k if a later one does
    first_past : (e : K × V) (ys : List (K × V)) → 0 < length ys → AllByRecursion (λ f. cmp e.0 f.0 ≡ Less) ys → starts_by cmp k ys ≡ true → is_ge (cmp k e.0) ≡ true
    first_past e [] some h starts = absurd (omega arith)
    first_past e (f ∷ ys) some h starts = ap is_ge (past o k e.0 f.0 (cmp k f.0) refl starts h.0)

    -- the search in a chunk
    rises : (xs : List (K × V)) → IsLedger cmp xs → IsNonDecreasingBy (λ e. ordering_index (cmp e.0 k)) xs
    rises xs s = searchable_from_sorted o (λ e. e.0) xs k (λ i d low lt.
        let below : cmp (get_or (keys_of xs) i d.0) (get_or (keys_of xs) (i + 1) d.0) ≡ Less = Less-from_sorted cmp (keys_of xs) i (i + 1) d.0 s (omega arith) (omega (arith, length-map xs (λ (e : K × V). e.0))) in
        let here = get_or-map (λ (e : K × V). e.0) xs i d d.0 (omega arith) in
        let next = get_or-map (λ (e : K × V). e.0) xs (i + 1) d d.0 lt in
        ap is_lt (turned o (get_or xs i d).0 (get_or xs (i + 1) d).0 Less (ap (λ y. cmp y (get_or xs (i + 1) d).0) (sym here) ∙ ap (cmp (get_or (keys_of xs) i d.0)) (sym next) ∙ below)))

    -- the entries before the index where the search in a chunk ends are below k
    front_below : (xs : List (K × V)) (i : ℕ) → i ≤ length xs → AllWithin (λ e. cmp e.0 k ≡ Less) xs 0 i → All (IsBelow cmp k) (take i xs)
    front_below xs i within h j d lt =
        let less : j < i = omega (arith, length-take-le i xs within) in
        subst (IsBelow cmp k) (sym (get_or-take i xs j d less)) (turned o _ k Less (h j d (omega arith) less))

    -- and those from there on are above k
    back_above : (xs : List (K × V)) (i : ℕ) → i ≤ length xs → AllWithin (λ e. cmp e.0 k ≡ Greater) xs i (length xs) → All (IsAbove cmp k) (drop i xs)
    back_above xs i within h j d lt =
        subst (IsAbove cmp k) (sym (get_or-drop i xs j d)) (turned o _ k Greater (h (i + j) d (omega arith) (omega (arith, length-drop i xs))))

    -- the entries of the chunks before one that starts by k are below k
    earlier_below : (front xs back : List (K × V)) → 0 < length xs → starts_by cmp k xs ≡ true → IsLedger cmp (front ++ (xs ++ back)) → All (IsBelow cmp k) front
    earlier_below front [] back some starts s = absurd (omega arith)
    earlier_below front (e ∷ xs) back some starts s =
        All-from_recursion (IsBelow cmp k) front (weaken (λ f. cmp f.0 e.0 ≡ Less) (IsBelow cmp k) (λ f less. past o k f.0 e.0 (cmp k e.0) refl starts less) front (around_below o front e (xs ++ back) s))

    -- k is not above all entries of a chunk that starts by k
    not_first : (xs : List (K × V)) → 0 < length xs → starts_by cmp k xs ≡ true → AllWithin (λ e. cmp e.0 k ≡ Greater) xs 0 (length xs) → ⊥
    not_first [] some starts h = omega arith
    not_first (e ∷ xs) some starts h = true≢false (sym starts ∙ ap is_ge (turned o e.0 k Greater (h 0 e (omega arith) some)))

    -- all of some entries in order, if the first is above k
    above_first : (es : List (K × V)) → IsLedger cmp es → IfSome (slice_get es 0) (IsAbove cmp k) → All (IsAbove cmp k) es
    above_first [] s h = All-nil (IsAbove cmp k)
    above_first (f ∷ es) s h = All-from_recursion (IsAbove cmp k) (f ∷ es) (chunk_above (f ∷ es) s (ap is_ge h))

    module _ {Z : Type 0} where
      -- the entries of chunks that start above k are above k
      later_above : (cs : List (Vec (K × V) Z)) → IsLedger cmp (concatenated cs) → AllByRecursion (λ c. starts_by cmp k (vec_items c) ≡ false) cs → AllByRecursion (IsAbove cmp k) (concatenated cs)
      later_above [] s h = tt
      later_above (c ∷ cs) s h =
          all_both (IsAbove cmp k) (vec_items c) (concatenated cs) (chunk_above (vec_items c) (ledger_front (vec_items c) (concatenated cs) s) h.0) (later_above cs (ledger_back (vec_items c) (concatenated cs) s) h.1)

      -- the entries of a chunk are some of all
      chunk_of_all : (P : K × V → Type 0) (cs : List (Vec (K × V) Z)) (j : ℕ) (d : Vec (K × V) Z) → j < length cs → AllByRecursion P (concatenated cs) → AllByRecursion P (vec_items (get_or cs j d))
      chunk_of_all P [] j d lt h = absurd (omega arith)
      chunk_of_all P (c ∷ cs) zero d lt h = all_front P (vec_items c) (concatenated cs) h
      chunk_of_all P (c ∷ cs) (suc j) d lt h = chunk_of_all P cs j d (omega arith) (all_back P (vec_items c) (concatenated cs) h)

      -- an entry before a chunk that starts by k is before k
      first_before : (xs : List (K × V)) (cs : List (Vec (K × V) Z)) (j : ℕ) (d : Vec (K × V) Z) → j < length cs → 0 < length (vec_items (get_or cs j d)) → IsLedger cmp (xs ++ concatenated cs) → starts_by cmp k (vec_items (get_or cs j d)) ≡ true → starts_by cmp k xs ≡ true
      first_before [] cs j d lt some s starts = refl
      first_before (e ∷ xs) cs j d lt some s starts =
          first_past e (vec_items (get_or cs j d)) some (chunk_of_all (λ f. cmp e.0 f.0 ≡ Less) cs j d lt (all_back (λ f. cmp e.0 f.0 ≡ Less) xs (concatenated cs) (ledger_head o e (xs ++ concatenated cs) s))) starts

      -- if a chunk starts by k then so do those before it
      are_split : (cs : List (Vec (K × V) Z)) → IsLedger cmp (concatenated cs) → ((j : ℕ) (d : Vec (K × V) Z) → j < length cs → 0 < length (vec_items (get_or cs j d)))
          → (i j : ℕ) (d : Vec (K × V) Z) → i ≤ j → j < length cs → starts_by cmp k (vec_items (get_or cs j d)) ≡ true → starts_by cmp k (vec_items (get_or cs i d)) ≡ true
      are_split [] s some i j d le lt starts = absurd (omega arith)
      are_split (c ∷ cs) s some zero zero d le lt starts = starts
      are_split (c ∷ cs) s some zero (suc j) d le lt starts = first_before (vec_items c) cs j d (omega arith) (some (suc j) d lt) s starts
      are_split (c ∷ cs) s some (suc i) zero d le lt starts = absurd (omega arith)
      are_split (c ∷ cs) s some (suc i) (suc j) d le lt starts =
          are_split cs (ledger_back (vec_items c) (concatenated cs) s) (λ m e less. some (suc m) e (omega arith)) i j d (omega arith) (omega arith) starts

      module _ (cs : List (Vec (K × V) Z)) (ok : AreChunks cmp cs) where
        -- no chunk is empty
        some_items : (j : ℕ) (d : Vec (K × V) Z) → j < length cs → 0 < length (vec_items (get_or cs j d))
        some_items j d lt = let x = get_or cs j d in let h = (ok.filled j d lt).0 in omega (arith, x.ok.0)

        -- the chunks that start by k come before the others
        pub partitioned : IsPartitionedBy (λ c. starts_by cmp k (vec_items c)) cs
        partitioned i j d le lt starts = are_split cs ok.ordered some_items i j d le lt starts

        module _ (n : ℕ) (bound : n ≤ length cs) (by_tests : IsPartitionedBy (λ c. starts_by cmp k (vec_items c)) cs → IsPartitionPoint (λ c. starts_by cmp k (vec_items c) ≡ true) (λ c. starts_by cmp k (vec_items c) ≡ false) cs n) where
          -- so the search for the first of the others finds it
          point : IsPartitionPoint (λ c. starts_by cmp k (vec_items c) ≡ true) (λ c. starts_by cmp k (vec_items c) ≡ false) cs n
          point = by_tests partitioned

          -- all entries of the chunks from there on are above k
          rest_above : All (IsAbove cmp k) (concatenated (drop n cs))
          rest_above =
              let Q : Vec (K × V) Z → Type 0 = λ c. starts_by cmp k (vec_items c) ≡ false in
              let chunks : All Q (drop n cs) = λ j d lt.
              let same = get_or-drop n cs j d in
              subst Q (sym same) (point.1 (n + j) d (omega arith) (omega (arith, length-drop n cs))) in
              let sorted = ledger_back (concatenated (take n cs)) (concatenated (drop n cs)) (subst (IsLedger cmp) (concatenated-split cs n) ok.ordered) in
              All-from_recursion (IsAbove cmp k) (concatenated (drop n cs)) (later_above (drop n cs) sorted (recursion_from_All Q (drop n cs) chunks))

          -- if no chunk starts by k then k would go before all entries
          pub no_chunk : n ≡ 0 → IsGap cmp cs k (record { chunk = 0; index = 0 })
          no_chunk none = record {
            within = record { chunk_in_range = λ some. some; index_in_range = λ some d. omega arith };
            first_is_first = λ first. refl;
            some_before = λ some. absurd (omega arith);
            below = All-nil (IsBelow cmp k);
            above = subst (λ m. All (IsAbove cmp k) (concatenated (drop m cs))) none rest_above;
          }

          -- the last chunk that starts at k or before it
          module _ (c : ℕ) (is : n ≡ c + 1) {x : Vec (K × V) Z} (read : x ≡ get_or cs c x) where
            -- it is one of the chunks
            lt : c < length cs
            lt = omega arith

            -- it starts by k
            starts : starts_by cmp k (vec_items x) ≡ true
            starts = subst (λ y. starts_by cmp k (vec_items y) ≡ true) (sym read) (point.0 c x (omega arith) (omega arith))

            -- it is not empty
            some : 0 < length (vec_items x)
            some = subst (λ y. 0 < length (vec_items y)) (sym read) (some_items c x lt)

            -- all entries in order, with its own between others
            sorted : IsLedger cmp (concatenated (take c cs) ++ (vec_items x ++ concatenated (drop (c + 1) cs)))
            sorted = subst (IsLedger cmp) (concatenated-parts cs c x lt read) ok.ordered

            -- its entries are in order
            sorted_here : IsLedger cmp (vec_items x)
            sorted_here = ledger_front (vec_items x) (concatenated (drop (c + 1) cs)) (ledger_back (concatenated (take c cs)) (vec_items x ++ concatenated (drop (c + 1) cs)) sorted)

            -- what a search in it answers
            module _ {xs : List (K × V)} (items : xs ≡ vec_items x) (i : ℕ) where
              -- it has k at an index
              pub found : i < length xs → HoldsAt (λ e. cmp e.0 k ≡ Equal) xs i → IsFound cmp cs k (record { chunk = c; index = i })
              found bound equal = found_near cmp k cs c x lt read i (subst (λ ys. i < length ys) items bound) (λ d. tied_back o _ k (subst (λ ys. HoldsAt (λ e. cmp e.0 k ≡ Equal) ys i) items equal d))

              -- or else k would go before an index of it
              pub gap : i ≤ length xs → (IsNonDecreasingBy (λ e. ordering_index (cmp e.0 k)) xs → IsPartitionPoint (λ e. cmp e.0 k ≡ Less) (λ e. cmp e.0 k ≡ Greater) xs i) → IsGap cmp cs k (record { chunk = c; index = i })
              gap bound by_order =
                  let within = subst (λ ys. i ≤ length ys) items bound in
                  let parts = subst (λ ys. IsNonDecreasingBy (λ e. ordering_index (cmp e.0 k)) ys → IsPartitionPoint (λ e. cmp e.0 k ≡ Less) (λ e. cmp e.0 k ≡ Greater) ys i) items by_order in
                  let halves = parts (rises (vec_items x) sorted_here) in
                  record {
                    within = record { chunk_in_range = λ _. lt; index_in_range = λ _. at_read cs (λ y. i ≤ vec_len y) c x lt read (omega (arith, x.ok.0)) };
                    first_is_first = λ first. absurd (not_first (vec_items x) some starts (subst (λ m. AllWithin (λ e. cmp e.0 k ≡ Greater) (vec_items x) m (length (vec_items x))) first halves.1));
                    some_before = λ _. lt;
                    below = subst (All (IsBelow cmp k)) (sym (before_at cs c x lt read i within)) (
                        All-append (IsBelow cmp k) (concatenated (take c cs)) (take i (vec_items x)) (earlier_below (concatenated (take c cs)) (vec_items x) (concatenated (drop (c + 1) cs)) some starts sorted) (front_below (vec_items x) i within halves.0)
                        );
                    above = subst (All (IsAbove cmp k)) (sym (from_at cs c x lt read i within)) (
                        All-append (IsAbove cmp k) (drop i (vec_items x)) (concatenated (drop (c + 1) cs)) (back_above (vec_items x) i within halves.1) (subst (λ m. All (IsAbove cmp k) (concatenated (drop m cs))) is rest_above)
                        );
                  }

        -- an index where the entry before it is below k
        module _ (c j : ℕ) (x : Vec (K × V) Z) (read : x ≡ get_or cs c x) (lt : c < length cs) (within : j < length (vec_items x)) (e : K × V) (here : e ≡ get_or (vec_items x) j e) (less : cmp k e.0 ≡ Greater) where
          -- the entries before that one are below k too
          below_last : All (IsBelow cmp k) (before cs (record { chunk = c; index = j }))
          below_last =
              let p : EntryIndex = record { chunk = c; index = j } in
              let all = sym (before-from cs p) ∙ ap (λ es. before cs p ++ es) (from_here cs c x lt read x j e within here) in
              let sorted = subst (IsLedger cmp) all ok.ordered in
              All-from_recursion (IsBelow cmp k) (before cs p) (weaken (λ f. cmp f.0 e.0 ≡ Less) (IsBelow cmp k) (λ f h. turned o f.0 k Less (o.trans f.0 e.0 k h (turned o k e.0 Greater less))) (before cs p) (around_below o (before cs p) e (drop 1 (from cs p)) sorted))

          -- so are all before the index
          pub below_place : (i : ℕ) → i ≡ j + 1 → All (IsBelow cmp k) (before cs (record { chunk = c; index = i }))
          below_place i next =
              subst (All (IsBelow cmp k)) (sym (before_next cs c x lt read x j e within here i next)) (
              All-append (IsBelow cmp k) (before cs (record { chunk = c; index = j })) (e ∷ []) below_last (All-cons (IsBelow cmp k) e [] less (All-nil (IsBelow cmp k)))
              )

        -- an index where the entry at it is above k, or there is none
        pub above_place : (p : EntryIndex) → IfSome (slice_get (from cs p) 0) (IsAbove cmp k) → All (IsAbove cmp k) (from cs p)
        above_place p h = above_first (from cs p) (ledger_back (before cs p) (from cs p) (subst (IsLedger cmp) (sym (before-from cs p)) ok.ordered)) h
