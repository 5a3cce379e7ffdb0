-- A ledger's chunks as a map of what its keys mean.
use Rattle.std.proofs.Common.{◌≡◌, ℕ, ◌+◌, ◌-◌, ◌<◌, ◌^◌, List, [], ◌∷◌, ◌++◌, Some, length, drop, map, get_or, set, refl, sym, ap, ◌∙◌, subst, arith, vec_len, All}
use Rattle.std.specs.Vec.{vec_items, with_item}
use Rattle.std.specs.List.{slice_get}
use Rattle.std.specs.Option.{unwrap_or}
use Rattle.std.specs.Cmp.{IsTotalOrder}
use Rattle.std.specs.BTreeMap.{insert_entry, is_at}
use Rattle.std.specs.Map.{set_value}
use Rattle.std.specs.declared.cmp.Ordering.{Ordering}
use Rattle.std.specs.declared.vec.Vec.{Vec}
use Rattle.std.proofs.lemmas.List.{length-append, length-map, map-append, drop-map}
use Rattle.std.proofs.lemmas.List.Elements.{All-nil, All-cons, All-append, All-weaker, All-from_recursion, recursion_from_All}
use Rattle.iv_ledger.specs.Entries.{IsLedger}
use Rattle.iv_ledger.specs.Inside.Chunks.{concatenated, before, from, IsFilled, AreFilled, AreChunks, IsFound, IsGap, IsInside}
use Rattle.iv_ledger.specs.Inside.Seen.{IsStored, seen, seen_chunk, seen_chunks}
use Rattle.iv_ledger.specs.declared.entry_index.EntryIndex.{EntryIndex}
use Rattle.iv_ledger.proofs.ChunkLemmas.{before-from, concatenated-set_written, filled-set, from_here}
use Rattle.iv_ledger.proofs.MapLemmas.{IsEntry, entry_read, entry_taken, found_insert, found_set, in_order, counted_found, whole_gathered, whole_none, whole_removed, gap_insert, whole_inserted}
use Rattle.iv_ledger.proofs.SeenLemmas.{filled-seen, inside-seen, seen-all, seen-before, seen-from, seen_at}
use Rattle.iv_ledger.proofs.Splits.{all_front, all_back, sorted_set}

-- ---- what holds of each entry
module _ {K V : Type 0} (P : K × V → Type 0) (front : List (K × V)) where
  all_before : (back : List (K × V)) → All P (front ++ back) → All P front
  all_before back h = All-from_recursion P front (all_front P front back (recursion_from_All P (front ++ back) h))

  all_after : (back : List (K × V)) → All P (front ++ back) → All P back
  all_after back h = All-from_recursion P back (all_back P front back (recursion_from_All P (front ++ back) h))

  all_here : (e : K × V) (back : List (K × V)) → All P (front ++ e ∷ back) → P e
  all_here e back h = (recursion_from_All P (e ∷ back) (all_after (e ∷ back) h)).0

  -- another entry in the place of one
  all_other : (e f : K × V) (back : List (K × V)) → P f → All P (front ++ e ∷ back) → All P (front ++ f ∷ back)
  all_other e f back new h = All-append P front (f ∷ back) (all_before (e ∷ back) h) (All-cons P f back new (tail e back (all_after (e ∷ back) h)))
    where
      tail : (e : K × V) (back : List (K × V)) → All P (e ∷ back) → All P back
      tail e back h = All-from_recursion P back (recursion_from_All P (e ∷ back) h).1

  -- one more
  all_more : (f : K × V) (back : List (K × V)) → P f → All P (front ++ back) → All P (front ++ f ∷ back)
  all_more f back new h = All-append P front (f ∷ back) (all_before back h) (All-cons P f back new (all_after back h))

  -- one less
  all_less : (e : K × V) (back : List (K × V)) → All P (front ++ e ∷ back) → All P (front ++ back)
  all_less e back h = All-append P front back (all_before (e ∷ back) h) (All-from_recursion P back (recursion_from_All P (e ∷ back) (all_after (e ∷ back) h)).1)

module _ {K S V Z : Type 0} (read : K → S) where
  -- entries around an index, as they are read
  seen_around : (cs : List (Vec (K × V) Z)) (p : EntryIndex) (middle : List (K × V)) → map (seen read) (before cs p ++ (middle ++ drop 1 (from cs p))) ≡ before (seen_chunks read cs) p ++ (map (seen read) middle ++ drop 1 (from (seen_chunks read cs) p))
  seen_around cs p middle =
      map-append (seen read) (before cs p) (middle ++ drop 1 (from cs p))
      ∙ ap (λ (es : List (S × V)). map (seen read) (before cs p) ++ es) (map-append (seen read) middle (drop 1 (from cs p)))
      ∙ (λ i. sym (seen-before read cs p) i ++ (map (seen read) middle ++ (sym (drop-map (seen read) 1 (from cs p)) ∙ ap (drop 1) (sym (seen-from read cs p))) i))

  -- the chunks without the entry at an index
  pub seen_removed : (cs new : List (Vec (K × V) Z)) (p : EntryIndex) → concatenated new ≡ before cs p ++ drop 1 (from cs p) → concatenated (seen_chunks read new) ≡ before (seen_chunks read cs) p ++ drop 1 (from (seen_chunks read cs) p)
  seen_removed cs new p all = seen-all read new ∙ ap (map (seen read)) all ∙ seen_around cs p []

  module _ {cmp : S → S → Ordering} (o : IsTotalOrder cmp) {k : S} {cs ds : List (Vec (K × V) Z)} {es : List (S × V)} {p : EntryIndex}
      (found : IsFound cmp (seen_chunks read ds) k p) (same : ds ≡ cs) (ok : AreChunks cmp (seen_chunks read cs)) (all : concatenated (seen_chunks read cs) ≡ es) where
    -- the entry that is read
    pub seen_read : {x : Vec (K × V) Z} {e : K × V} → x ≡ get_or cs p.chunk x → e ≡ get_or (vec_items x) p.index e → IsEntry cmp k (seen_chunks read cs) es p (seen read e)
    seen_read {x = x} {e = e} is at =
        entry_read o found (ap (seen_chunks read) same) ok all (seen_at (seen_chunk read) cs p.chunk x is) (seen_at (seen read) (vec_items x) p.index e at)

    -- the entry that is taken
    pub seen_taken : {e : K × V} → from cs p ≡ e ∷ drop 1 (from cs p) → IsEntry cmp k (seen_chunks read cs) es p (seen read e)
    seen_taken {e = e} first =
        entry_taken o found (ap (seen_chunks read) same) ok all (
        seen-from read cs p ∙ ap (map (seen read)) first
        ∙ ap (λ (fs : List (S × V)). seen read e ∷ fs) (sym (drop-map (seen read) 1 (from cs p)) ∙ ap (drop 1) (sym (seen-from read cs p)))
        )

    there : IsInside cs p
    there = inside-seen read cs p (subst (λ (ys : List (Vec (K × V) Z)). IsInside (seen_chunks read ys) p) same found.inside)

    -- another value is written
    module _ {x : Vec (K × V) Z} {e : K × V} (is : x ≡ get_or cs p.chunk x) (at : e ≡ get_or (vec_items x) p.index e) {w v : V} (writes : w ≡ v) where
      in_chunk : p.index < length (vec_items x)
      in_chunk = omega (arith, x.ok.0, subst (λ y. p.index < vec_len y) (sym is) (there.index_in_range x))

      raw : concatenated (set cs p.chunk (with_item x p.index (e.0, w))) ≡ before cs p ++ (e.0, w) ∷ drop 1 (from cs p)
      raw = concatenated-set_written cs p.chunk x there.chunk_in_range is (with_item x p.index (e.0, w)) p.index (e.0, w) in_chunk refl

      written : concatenated (seen_chunks read (set cs p.chunk (with_item x p.index (e.0, w)))) ≡ before (seen_chunks read cs) p ++ (read e.0, v) ∷ drop 1 (from (seen_chunks read cs) p)
      written =
          seen-all read (set cs p.chunk (with_item x p.index (e.0, w))) ∙ ap (map (seen read)) raw ∙ seen_around cs p ((e.0, w) ∷ [])
          ∙ ap (λ (u : V). before (seen_chunks read cs) p ++ (read e.0, u) ∷ drop 1 (from (seen_chunks read cs) p)) writes

      pub seen_insert : concatenated (seen_chunks read (set cs p.chunk (with_item x p.index (e.0, w)))) ≡ insert_entry cmp es k v
      seen_insert = written ∙ sym (found_insert (seen_read is at) v)

      pub seen_set : concatenated (seen_chunks read (set cs p.chunk (with_item x p.index (e.0, w)))) ≡ set_value (is_at (cmp k)) es v
      seen_set = written ∙ sym (found_set (seen_read is at) v)

      pub stored_written : {IsKey : K → Type 0} {len : ℕ} → IsStored cmp read IsKey cs len → IsStored cmp read IsKey (set cs p.chunk (with_item x p.index (e.0, w))) len
      stored_written {IsKey = IsKey} {len = len} s =
          let filled = filled-set cs p.chunk (with_item x p.index (e.0, w)) (subst IsFilled (sym is) (s.filled p.chunk x there.chunk_in_range)) s.filled in
          let entry = seen_read is at in
          let parts : concatenated cs ≡ before cs p ++ e ∷ drop 1 (from cs p) = sym (before-from cs p) ∙ ap (λ (fs : List (K × V)). before cs p ++ fs) (from_here cs p.chunk x there.chunk_in_range is x p.index e in_chunk at) in
          let keys = subst (All (λ f. IsKey f.0)) parts s.keys in
          record {
            whole = whole_gathered _ (before (seen_chunks read cs) p ++ (read e.0, v) ∷ drop 1 (from (seen_chunks read cs) p)) len written
                (sorted_set o (before (seen_chunks read cs) p) (seen read e) v (drop 1 (from (seen_chunks read cs) p)) (in_order entry))
                (filled-seen read _ filled)
                (omega (arith, counted_found entry s.whole, length-append (before (seen_chunks read cs) p) ((read e.0, v) ∷ drop 1 (from (seen_chunks read cs) p)))) s.whole.small;
            filled = filled;
            keys = subst (All (λ f. IsKey f.0)) (sym raw) (all_other (λ f. IsKey f.0) (before cs p) e (e.0, w) (drop 1 (from cs p)) (all_here (λ f. IsKey f.0) (before cs p) e (drop 1 (from cs p)) keys) keys);
          }

    -- an entry is taken out
    pub stored_removed : {IsKey : K → Type 0} {len : ℕ} {new : List (Vec (K × V) Z)} {e : K × V} → from cs p ≡ e ∷ drop 1 (from cs p) → IsStored cmp read IsKey cs len → concatenated new ≡ before cs p ++ drop 1 (from cs p) → AreFilled new → IsStored cmp read IsKey new (len - 1)
    stored_removed {IsKey = IsKey} {new = new} {e = e} first s without filled = record {
      whole = whole_removed (seen_taken first) s.whole (seen_removed cs new p without) (filled-seen read new filled);
      filled = filled;
      keys = subst (All (λ f. IsKey f.0)) (sym without) (all_less (λ f. IsKey f.0) (before cs p) e (drop 1 (from cs p))
          (subst (All (λ f. IsKey f.0)) (sym (before-from cs p) ∙ ap (λ (es : List (K × V)). before cs p ++ es) first) s.keys));
    }

-- no entry
pub stored_none : {K S V Z : Type 0} {cmp : S → S → Ordering} (read : K → S) (IsKey : K → Type 0) (cs : List (Vec (K × V) Z)) → cs ≡ [] → IsStored cmp read IsKey cs 0
stored_none {K = K} {V = V} {Z = Z} read IsKey cs none = record {
  whole = whole_none (seen_chunks read cs) (ap (seen_chunks read) none);
  filled = subst AreFilled (sym none) (All-nil IsFilled);
  keys = subst (λ (ds : List (Vec (K × V) Z)). All (λ e. IsKey e.0) (concatenated ds)) (sym none) (All-nil (λ e. IsKey e.0));
}

-- ---- another key is made, and the others mean what they meant
module _ {K S V : Type 0} (old new : K → S) (Old New : K → Type 0) (kept : (k : K) → Old k → New k × (new k ≡ old k)) where
  map_kept : (es : List (K × V)) → All (λ e. Old e.0) es → map (seen new) es ≡ map (seen old) es
  map_kept [] h = refl
  map_kept (e ∷ es) h =
      let both = recursion_from_All (λ (f : K × V). Old f.0) (e ∷ es) h in
      λ i. ((kept e.0 both.0).1 i, e.1) ∷ map_kept es (All-from_recursion (λ f. Old f.0) es both.1) i

  keys_kept : (es : List (K × V)) → All (λ e. Old e.0) es → All (λ e. New e.0) es
  keys_kept es h = All-weaker (λ e. Old e.0) (λ e. New e.0) (λ e is. (kept e.0 is).0) es h

  module _ {Z : Type 0} {cmp : S → S → Ordering} {cs : List (Vec (K × V) Z)} {len : ℕ} (s : IsStored cmp old Old cs len) (ds : List (Vec (K × V) Z)) where
    module _ (same : concatenated ds ≡ concatenated cs) where
      -- the entries are the same
      pub kept_all : concatenated (seen_chunks new ds) ≡ concatenated (seen_chunks old cs)
      kept_all = seen-all new ds ∙ ap (map (seen new)) same ∙ map_kept (concatenated cs) s.keys ∙ sym (seen-all old cs)

      pub stored_kept : AreFilled ds → IsStored cmp new New ds len
      stored_kept filled = record {
        whole = whole_gathered (seen_chunks new ds) (concatenated (seen_chunks old cs)) len kept_all s.whole.in_chunks.ordered (filled-seen new ds filled) s.whole.counted s.whole.small;
        filled = filled;
        keys = subst (All (λ e. New e.0)) (sym same) (keys_kept (concatenated cs) s.keys);
      }

    halves : (p : EntryIndex) → All (λ e. Old e.0) (before cs p ++ from cs p)
    halves p = subst (All (λ e. Old e.0)) (sym (before-from cs p)) s.keys

    put_all : (k : S) (p : EntryIndex) (key : K) (v : V) → new key ≡ k → concatenated ds ≡ before cs p ++ (key, v) ∷ from cs p → concatenated (seen_chunks new ds) ≡ before (seen_chunks old cs) p ++ (k, v) ∷ from (seen_chunks old cs) p
    put_all k p key v means put =
        let first = map_kept (before cs p) (all_before (λ e. Old e.0) (before cs p) (from cs p) (halves p)) ∙ sym (seen-before old cs p) in
        let last = map_kept (from cs p) (all_after (λ e. Old e.0) (before cs p) (from cs p) (halves p)) ∙ sym (seen-from old cs p) in
        seen-all new ds ∙ ap (map (seen new)) put ∙ map-append (seen new) (before cs p) ((key, v) ∷ from cs p)
        ∙ (λ i. first i ++ (means i, v) ∷ last i)

    -- and the new key has its entry
    module _ {hs : List (Vec (K × V) Z)} {k : S} {p : EntryIndex} (missing : IsGap cmp (seen_chunks old hs) k p) (again : hs ≡ cs) {es : List (S × V)} (all : concatenated (seen_chunks old cs) ≡ es)
        (key : K) (v : V) (means : New key × (new key ≡ k)) (put : concatenated ds ≡ before cs p ++ (key, v) ∷ from cs p) where
      pub put_insert : concatenated (seen_chunks new ds) ≡ insert_entry cmp es k v
      put_insert = put_all k p key v means.1 put ∙ sym (gap_insert missing (ap (seen_chunks old) again) all v)

      pub stored_put : IsTotalOrder cmp → len + 1 < 2 ^ 63 → AreFilled ds → IsStored cmp new New ds (len + 1)
      stored_put o room filled = record {
        whole = whole_inserted missing (ap (seen_chunks old) again) all o v s.whole room (put_all k p key v means.1 put) (filled-seen new ds filled);
        filled = filled;
        keys = subst (All (λ e. New e.0)) (sym put) (all_more (λ e. New e.0) (before cs p) (key, v) (from cs p) means.0 (keys_kept (before cs p ++ from cs p) (halves p)));
      }

-- what holds of each entry holds of each from an index on
pub keys_from : {K V Z : Type 0} (P : K × V → Type 0) (cs : List (Vec (K × V) Z)) (p : EntryIndex) → All P (concatenated cs) → All P (from cs p)
keys_from P cs p h = all_after P (before cs p) (from cs p) (subst (All P) (sym (before-from cs p)) h)

-- the first entry from an index on has a key
module _ {K V : Type 0} (P : K × V → Type 0) (e : K × V) where
  first_of : (xs : List (K × V)) → All P xs → Some e ≡ slice_get xs 0 → P e
  first_of [] h is = absurd cc
  first_of (f ∷ fs) h is = subst P (sym (ap (λ o. unwrap_or o e) is)) (recursion_from_All P (f ∷ fs) h).0

  pub key_first : {Z : Type 0} (cs : List (Vec (K × V) Z)) (p : EntryIndex) → All P (concatenated cs) → Some e ≡ slice_get (from cs p) 0 → P e
  key_first cs p h is = first_of (from cs p) (keys_from P cs p h) is

  -- the entry at an index of a chunk has one
  pub key_at : {Z : Type 0} (cs : List (Vec (K × V) Z)) (c : ℕ) (x : Vec (K × V) Z) → c < length cs → x ≡ get_or cs c x → (j : ℕ) → j < length (vec_items x) → e ≡ get_or (vec_items x) j e → All P (concatenated cs) → P e
  key_at cs c x lt is j within at h =
      let p : EntryIndex = record { chunk = c; index = j } in
      all_here P (before cs p) e (drop 1 (from cs p)) (subst (All P) (sym (before-from cs p) ∙ ap (λ (es : List (K × V)). before cs p ++ es) (from_here cs c x lt is x j e within at)) h)

  -- the entry at an index that is inside has one
  pub key_inside : {Z : Type 0} {cs ds : List (Vec (K × V) Z)} {p : EntryIndex} → IsInside ds p → ds ≡ cs → All P (concatenated cs) → {x : Vec (K × V) Z} → x ≡ get_or cs p.chunk x → e ≡ get_or (vec_items x) p.index e → P e
  key_inside {cs = cs} {p = p} inside same h {x = x} is at =
      let there : IsInside cs p = subst (λ ys. IsInside ys p) same inside in
      key_at cs p.chunk x there.chunk_in_range is p.index (omega (arith, x.ok.0, subst (λ y. p.index < vec_len y) (sym is) (there.index_in_range x))) at h

-- entries that are given at once
pub stored_gathered : {K S V Z : Type 0} {cmp : S → S → Ordering} (read : K → S) (IsKey : K → Type 0) (cs : List (Vec (K × V) Z)) (es : List (K × V)) (len : ℕ) → concatenated cs ≡ es → IsLedger cmp (map (seen read) es) → All (λ e. IsKey e.0) es → AreFilled cs → len ≡ length es → len < 2 ^ 63 → IsStored cmp read IsKey cs len
stored_gathered read IsKey cs es len all ordered keys filled counted small = record {
  whole = whole_gathered (seen_chunks read cs) (map (seen read) es) len (seen-all read cs ∙ ap (map (seen read)) all) ordered (filled-seen read cs filled) (counted ∙ sym (length-map es (seen read))) small;
  filled = filled;
  keys = subst (All (λ e. IsKey e.0)) (sym all) keys;
}
