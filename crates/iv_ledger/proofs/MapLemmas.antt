-- A list of chunks as a map, at the index that a search found.
use Rattle.std.proofs.Common.{◌≡◌, ℕ, ◌+◌, ◌-◌, ◌<◌, ◌≤◌, ◌^◌, Bool, true, false, List, [], ◌∷◌, ◌++◌, Option, Some, None, length, take, drop, get_or, set, refl, sym, ap, ◌∙◌, subst, append_assoc, arith, vec_len}
use Rattle.std.specs.Prelude.{All, filter, find}
use Rattle.std.specs.List.{slice_get}
use Rattle.std.specs.Vec.{vec_items, with_item}
use Rattle.std.specs.Map.{remove_entry, set_value}
use Rattle.std.specs.BTreeMap.{is_at, insert_entry}
use Rattle.std.specs.Cmp.{IsTotalOrder}
use Rattle.std.specs.Ordering.{is_le, is_lt, is_ge}
use Rattle.std.specs.declared.cmp.Ordering.{Ordering}
use Rattle.std.specs.declared.cmp.Ordering.TheVariants.{Less, Equal, Greater}
use Rattle.std.specs.declared.vec.Vec.{Vec}
use Rattle.std.proofs.lemmas.List.{length-append, length_push, get_or_push, get_or_default, drop-drop}
use Rattle.std.proofs.lemmas.List.Elements.{All-nil, All-cons, All-append, All-weaker}
use Rattle.iv_ledger.specs.Inside.Chunks.{concatenated, before, from, IsFilled, AreFilled, AreChunks, IsWhole, IsInside, IsGap, IsFound, most_in_chunk}
use Rattle.iv_ledger.specs.Entries.{IsLedger, value_at, last_until}
use Rattle.iv_ledger.specs.declared.entry_index.EntryIndex.{EntryIndex}
use Rattle.iv_ledger.proofs.Nearest.{find-filter}
use Rattle.iv_ledger.proofs.Splits.{IsBelow, IsAbove, filter_from, find_last, find_no_last, value_absent, remove_absent, insert_absent, value_present, set_present, remove_present, insert_present, below_present, above_present, sorted_insert, sorted_remove, sorted_set, ledger_nil}
use Rattle.iv_ledger.proofs.ChunkLemmas.{before-from, before_next, from_here, concatenated-set_written, filled-set}

-- the entries of the chunks are these, in order, and there are so many
pub whole_gathered : {K V Z : Type 0} {cmp : K → K → Ordering} (cs : List (Vec (K × V) Z)) (es : List (K × V)) (len : ℕ) → concatenated cs ≡ es → IsLedger cmp es → AreFilled cs → len ≡ length es → len < 2 ^ 63 → IsWhole cmp cs len
whole_gathered {cmp = cmp} cs es len all sorted filled counted small = record {
  in_chunks = record { ordered = subst (IsLedger cmp) (sym all) sorted; filled = filled };
  counted = counted ∙ sym (ap length all);
  small = small;
}

-- no entry
pub whole_none : {K V Z : Type 0} {cmp : K → K → Ordering} (cs : List (Vec (K × V) Z)) → cs ≡ [] → IsWhole cmp cs 0
whole_none {K = K} {V = V} {cmp = cmp} cs none = whole_gathered cs [] 0 (ap concatenated none) (ledger_nil K V cmp) (subst AreFilled (sym none) (All-nil IsFilled)) refl (omega arith)

-- an index in a chunk is small
pub small_index : {X Z : Type 0} (cs : List (Vec X Z)) (p : EntryIndex) → AreFilled cs → IsInside cs p → p.index < most_in_chunk
small_index [] p filled inside = absurd (omega (arith, inside.chunk_in_range))
small_index (c ∷ cs) p filled inside = omega (arith, filled p.chunk c inside.chunk_in_range, inside.index_in_range c)

-- the first entry from an index on is the first that passes a test, if those from there on are all that pass
pub first_found : {X Z : Type 0} {cs ds fs : List (Vec X Z)} {es : List X} {r : Option X} → fs ≡ cs → ds ≡ cs → concatenated cs ≡ es → (t : X → Bool) (p : EntryIndex) → from ds p ≡ filter t (concatenated ds) → r ≡ slice_get (from fs p) 0 → r ≡ find t es
first_found again same all t p passing first =
    first
    ∙ ap (λ hs. slice_get (from hs p) 0) (again ∙ sym same)
    ∙ ap (λ xs. slice_get xs 0) (passing ∙ ap (λ hs. filter t (concatenated hs)) same ∙ ap (filter t) all)
    ∙ sym (find-filter t _)

-- what holds of all holds of the last one
last_of : {X : Type 0} (Q : X → Type 0) (front : List X) (x : X) → All Q (front ++ x ∷ []) → Q x
last_of Q front x h = subst Q (get_or_push front x x (length front) refl) (h (length front) x (omega (arith, length_push front x)))

-- the first item, or else another one
abbrev head_or : {X : Type 0} → X → List X → X
head_or d [] = d
head_or d (x ∷ xs) = x

-- ---- the key is there

-- among the entries es of the chunks, the one at the index is e, and its key is k
pub record IsEntry {K V Z : Type 0} (cmp : K → K → Ordering) (k : K) (cs : List (Vec (K × V) Z)) (es : List (K × V)) (p : EntryIndex) (e : K × V) : Type 0 where
  pub total : IsTotalOrder cmp
  pub sorted : IsLedger cmp es
  pub all : concatenated cs ≡ es
  pub first : from cs p ≡ e ∷ drop 1 (from cs p)
  pub here : cmp k e.0 ≡ Equal

module _ {K V Z : Type 0} {cmp : K → K → Ordering} {k : K} {cs : List (Vec (K × V) Z)} {es : List (K × V)} {p : EntryIndex} {e : K × V} (entry : IsEntry cmp k cs es p e) where
  -- all entries: those before it, itself, and those after it
  parts : es ≡ before cs p ++ e ∷ drop 1 (from cs p)
  parts = sym entry.all ∙ sym (before-from cs p) ∙ ap (λ xs. before cs p ++ xs) entry.first

  -- these ascend
  pub in_order : IsLedger cmp (before cs p ++ e ∷ drop 1 (from cs p))
  in_order = subst (IsLedger cmp) parts entry.sorted

  -- the keys before it are below its key
  below : All (IsBelow cmp k) (before cs p)
  below = below_present entry.total k (before cs p) e (drop 1 (from cs p)) entry.here in_order

  -- the keys after it are above its key
  above : All (IsAbove cmp k) (drop 1 (from cs p))
  above = above_present entry.total k (before cs p) e (drop 1 (from cs p)) entry.here in_order

  -- its value is the one at the key
  pub found_value : value_at cmp es k ≡ Some e.1
  found_value = ap (λ xs. value_at cmp xs k) parts ∙ value_present cmp k (before cs p) e (drop 1 (from cs p)) below entry.here

  -- a set of the key writes its value
  pub found_set : (w : V) → set_value (is_at (cmp k)) es w ≡ before cs p ++ (e.0, w) ∷ drop 1 (from cs p)
  found_set w = ap (λ xs. set_value (is_at (cmp k)) xs w) parts ∙ set_present cmp k (before cs p) e (drop 1 (from cs p)) below entry.here w

  -- and so does an insertion of the key
  pub found_insert : (w : V) → insert_entry cmp es k w ≡ before cs p ++ (e.0, w) ∷ drop 1 (from cs p)
  found_insert w = ap (λ xs. insert_entry cmp xs k w) parts ∙ insert_present cmp k (before cs p) e (drop 1 (from cs p)) below entry.here w

  -- a removal of the key leaves it out
  pub found_remove : remove_entry (is_at (cmp k)) es ≡ before cs p ++ drop 1 (from cs p)
  found_remove = ap (remove_entry (is_at (cmp k))) parts ∙ remove_present cmp k (before cs p) e (drop 1 (from cs p)) below entry.here

  -- it is the last one at or before the key
  pub found_last : last_until cmp es k ≡ Some e
  found_last =
      ap (λ xs. last_until cmp xs k) parts
      ∙ find_last (λ f. is_ge (cmp k f.0)) (before cs p) e (drop 1 (from cs p)) (ap is_ge entry.here) (All-weaker (IsAbove cmp k) (λ f. is_ge (cmp k f.0) ≡ false) (λ f h. ap is_ge h) (drop 1 (from cs p)) above)

  -- the entries from its key on
  from_entry : filter (λ f. is_le (cmp k f.0)) es ≡ from cs p
  from_entry =
      ap (filter (λ f. is_le (cmp k f.0))) parts
      ∙ filter_from (λ f. is_le (cmp k f.0)) (before cs p) (e ∷ drop 1 (from cs p)) (
      All-weaker (IsBelow cmp k) (λ f. is_le (cmp k f.0) ≡ false) (λ f h. ap is_le h) (before cs p) below
      ) (All-cons (λ f. is_le (cmp k f.0) ≡ true) e (drop 1 (from cs p)) (ap is_le entry.here) (All-weaker (IsAbove cmp k) (λ f. is_le (cmp k f.0) ≡ true) (λ f h. ap is_le h) (drop 1 (from cs p)) above))
      ∙ sym entry.first

  -- the entries after its key
  after_entry : filter (λ f. is_lt (cmp k f.0)) es ≡ drop 1 (from cs p)
  after_entry =
      ap (filter (λ f. is_lt (cmp k f.0))) (parts ∙ sym (append_assoc (before cs p) (e ∷ []) (drop 1 (from cs p))))
      ∙ filter_from (λ f. is_lt (cmp k f.0)) (before cs p ++ e ∷ []) (drop 1 (from cs p)) (
      All-append (λ f. is_lt (cmp k f.0) ≡ false) (before cs p) (e ∷ []) (
      All-weaker (IsBelow cmp k) (λ f. is_lt (cmp k f.0) ≡ false) (λ f h. ap is_lt h) (before cs p) below
      ) (All-cons (λ f. is_lt (cmp k f.0) ≡ false) e [] (ap is_lt entry.here) (All-nil (λ f. is_lt (cmp k f.0) ≡ false)))
      ) (All-weaker (IsAbove cmp k) (λ f. is_lt (cmp k f.0) ≡ true) (λ f h. ap is_lt h) (drop 1 (from cs p)) above)

  module _ {len : ℕ} (whole : IsWhole cmp cs len) where
    -- the number of entries, by the same parts
    pub counted_found : len ≡ length (before cs p) + (1 + length (drop 1 (from cs p)))
    counted_found = omega (arith, whole.counted, ap length entry.all, ap length parts, length-append (before cs p) (e ∷ drop 1 (from cs p)))

    -- there is an entry at least
    pub some_entry : 1 ≤ len
    some_entry = omega (arith, counted_found)

    -- without the entry
    pub whole_removed : {new : List (Vec (K × V) Z)} → concatenated new ≡ before cs p ++ drop 1 (from cs p) → AreFilled new → IsWhole cmp new (len - 1)
    whole_removed {new = new} all filled =
        whole_gathered new (before cs p ++ drop 1 (from cs p)) (len - 1) all (sorted_remove entry.total (before cs p) e (drop 1 (from cs p)) in_order) filled
        (omega (arith, counted_found, length-append (before cs p) (drop 1 (from cs p)))) (omega (arith, whole.small))

-- if a search found a key there is an entry with it
module _ {K V Z : Type 0} {cmp : K → K → Ordering} (o : IsTotalOrder cmp) {k : K} {cs ds : List (Vec (K × V) Z)} {es : List (K × V)} {p : EntryIndex}
    (found : IsFound cmp ds k p) (same : ds ≡ cs) (ok : AreChunks cmp cs) (all : concatenated cs ≡ es) where
  -- so the search says of the chunks themselves
  there : IsFound cmp cs k p
  there = subst (λ ys. IsFound cmp ys k p) same found

  -- the index is one of the chunk
  in_chunk : (x : Vec (K × V) Z) → x ≡ get_or cs p.chunk x → p.index < length (vec_items x)
  in_chunk x is = omega (arith, x.ok.0, subst (λ y. p.index < vec_len y) (sym is) (there.inside.index_in_range x))

  module _ {x : Vec (K × V) Z} {e : K × V} (is : x ≡ get_or cs p.chunk x) (read : e ≡ get_or (vec_items x) p.index e) where
    -- the entry that is read
    pub entry_read : IsEntry cmp k cs es p e
    entry_read = record {
      total = o;
      sorted = subst (IsLedger cmp) all ok.ordered;
      all = all;
      first = from_here cs p.chunk x there.inside.chunk_in_range is x p.index e (in_chunk x is) read;
      here = ap (λ f. cmp k f.0) (read ∙ ap (λ y. get_or (vec_items y) p.index e) is) ∙ there.has_key x e;
    }

    -- ---- another value is written
    module _ {w v : V} (writes : w ≡ v) where
      -- all entries then
      written_all : concatenated (set cs p.chunk (with_item x p.index (e.0, w))) ≡ before cs p ++ (e.0, v) ∷ drop 1 (from cs p)
      written_all =
          concatenated-set_written cs p.chunk x there.inside.chunk_in_range is (with_item x p.index (e.0, w)) p.index (e.0, w) (in_chunk x is) refl
          ∙ ap (λ u. before cs p ++ (e.0, u) ∷ drop 1 (from cs p)) writes

      -- they are those after an insertion of the key
      pub written_insert : concatenated (set cs p.chunk (with_item x p.index (e.0, w))) ≡ insert_entry cmp es k v
      written_insert = written_all ∙ sym (found_insert entry_read v)

      -- and those after a set of the key
      pub written_set : concatenated (set cs p.chunk (with_item x p.index (e.0, w))) ≡ set_value (is_at (cmp k)) es v
      written_set = written_all ∙ sym (found_set entry_read v)

      -- the chunks are whole as before
      pub whole_written : {len : ℕ} → IsWhole cmp cs len → IsWhole cmp (set cs p.chunk (with_item x p.index (e.0, w))) len
      whole_written {len = len} whole =
          let full : IsFilled x = subst IsFilled (sym is) (ok.filled p.chunk x there.inside.chunk_in_range) in
          whole_gathered _ (before cs p ++ (e.0, v) ∷ drop 1 (from cs p)) len written_all (sorted_set o (before cs p) e v (drop 1 (from cs p)) (in_order entry_read))
          (filled-set cs p.chunk (with_item x p.index (e.0, w)) full ok.filled)
          (omega (arith, counted_found entry_read whole, length-append (before cs p) ((e.0, v) ∷ drop 1 (from cs p)))) whole.small

  -- there is one
  entry_there : (hs : List (Vec (K × V) Z)) → hs ≡ cs → (e : K × V) × IsEntry cmp k cs es p e
  entry_there [] are = absurd (omega (arith, there.inside.chunk_in_range, ap length are))
  entry_there (c ∷ hs) are =
      let is = get_or_default cs p.chunk c (get_or cs p.chunk c) there.inside.chunk_in_range in
      some_of (get_or cs p.chunk c) is (vec_items (get_or cs p.chunk c)) refl
    where
      -- it is the one at the index, as its chunk is not empty
      some_of : (x : Vec (K × V) Z) → x ≡ get_or cs p.chunk x → (xs : List (K × V)) → vec_items x ≡ xs → (e : K × V) × IsEntry cmp k cs es p e
      some_of x is [] none = absurd (omega (arith, in_chunk x is, ap length none))
      some_of x is (d ∷ xs) some = (get_or (vec_items x) p.index d, entry_read is (get_or_default (vec_items x) p.index d (get_or (vec_items x) p.index d) (in_chunk x is)))

  -- the entry that was taken is that one
  pub entry_taken : {e : K × V} → from cs p ≡ e ∷ drop 1 (from cs p) → IsEntry cmp k cs es p e
  entry_taken {e = e} first =
      let one = entry_there cs refl in
      subst (IsEntry cmp k cs es p) (ap (head_or e) (sym one.1.first ∙ first)) one.1

  -- the index is where the entries from the key on begin
  pub found_walk : filter (λ f. is_le (cmp k f.0)) es ≡ from cs p
  found_walk = from_entry (entry_there cs refl).1

  -- and the next index is where those after the key begin
  pub found_after : filter (λ f. is_lt (cmp k f.0)) es ≡ from cs (record { chunk = p.chunk; index = p.index + 1 })
  found_after = after_entry (entry_there cs refl).1 ∙ drop-drop 1 p.index (concatenated (drop p.chunk cs))

-- ---- the key is not there
module _ {K V Z : Type 0} {cmp : K → K → Ordering} {k : K} {cs ds : List (Vec (K × V) Z)} {es : List (K × V)} {p : EntryIndex} (missing : IsGap cmp ds k p) (same : ds ≡ cs) (all : concatenated cs ≡ es) where
  -- so the search says of the chunks themselves
  gap : IsGap cmp cs k p
  gap = subst (λ ys. IsGap cmp ys k p) same missing

  -- all entries: those before the index and those from it on
  around : before cs p ++ from cs p ≡ es
  around = before-from cs p ∙ all

  -- the key has no value
  pub gap_value : value_at cmp es k ≡ None
  gap_value = ap (λ xs. value_at cmp xs k) (sym around) ∙ value_absent cmp k (before cs p) (from cs p) gap.below gap.above

  -- a removal of the key changes nothing
  pub gap_remove : remove_entry (is_at (cmp k)) es ≡ es
  gap_remove = ap (remove_entry (is_at (cmp k))) (sym around) ∙ remove_absent cmp k (before cs p) (from cs p) gap.below gap.above ∙ around

  -- an insertion of the key puts its entry in at the index
  pub gap_insert : (v : V) → insert_entry cmp es k v ≡ before cs p ++ (k, v) ∷ from cs p
  gap_insert v = ap (λ xs. insert_entry cmp xs k v) (sym around) ∙ insert_absent cmp k (before cs p) (from cs p) gap.below gap.above v

  -- the entries of which a test says no below the key and yes above it
  pub gap_filter : (t : Ordering → Bool) → t Greater ≡ false → t Less ≡ true → filter (λ f. t (cmp k f.0)) es ≡ from cs p
  gap_filter t below_not above_so =
      ap (filter (λ f. t (cmp k f.0))) (sym around)
      ∙ filter_from (λ f. t (cmp k f.0)) (before cs p) (from cs p)
      (All-weaker (IsBelow cmp k) (λ f. t (cmp k f.0) ≡ false) (λ f h. ap t h ∙ below_not) (before cs p) gap.below) (All-weaker (IsAbove cmp k) (λ f. t (cmp k f.0) ≡ true) (λ f h. ap t h ∙ above_so) (from cs p) gap.above)

  -- no key from the index on is at or before the key
  not_above : All (λ f. is_ge (cmp k f.0) ≡ false) (from cs p)
  not_above = All-weaker (IsAbove cmp k) (λ f. is_ge (cmp k f.0) ≡ false) (λ f h. ap is_ge h) (from cs p) gap.above

  -- before the first index there is nothing
  pub gap_no_last : p.index ≡ 0 → last_until cmp es k ≡ None
  gap_no_last first =
      let none : before cs p ≡ [] = ap (λ i. concatenated (take p.chunk cs) ++ take i (concatenated (drop p.chunk cs))) first ∙ ap (λ c. concatenated (take c cs) ++ []) (gap.first_is_first first) in
      ap (λ xs. last_until cmp xs k) (sym around ∙ ap (λ xs. xs ++ from cs p) none)
      ∙ find_no_last (λ f. is_ge (cmp k f.0)) (from cs p) not_above

  -- ---- else there is an entry before it
  module _ {x : Vec (K × V) Z} (is : x ≡ get_or cs p.chunk x) (j : ℕ) (next : p.index ≡ j + 1) where
    -- its index is one of the chunk
    pub gap_within : j < vec_len x
    gap_within = omega (arith, next, subst (λ y. p.index ≤ vec_len y) (sym is) (gap.within.index_in_range (omega (arith, gap.some_before (omega (arith, next)))) x))

    -- it is the last one at or before the key
    pub gap_last : {e : K × V} → e ≡ get_or (vec_items x) j e → last_until cmp es k ≡ Some e
    gap_last {e = e} read =
        let lt : p.chunk < length cs = gap.some_before (omega (arith, next)) in
        let front = before cs (record { chunk = p.chunk; index = j }) in
        let parts : before cs p ≡ front ++ e ∷ [] = before_next cs p.chunk x lt is x j e (omega (arith, x.ok.0, gap_within)) read p.index next in
        let here : cmp k e.0 ≡ Greater = last_of (IsBelow cmp k) front e (subst (All (IsBelow cmp k)) parts gap.below) in
        ap (λ xs. last_until cmp xs k) (sym around ∙ ap (λ xs. xs ++ from cs p) parts ∙ append_assoc front (e ∷ []) (from cs p))
        ∙ find_last (λ f. is_ge (cmp k f.0)) front e (from cs p) (ap is_ge here) not_above

  -- with a new entry
  pub whole_inserted : (o : IsTotalOrder cmp) (v : V) {new : List (Vec (K × V) Z)} {len : ℕ} → IsWhole cmp cs len → len + 1 < 2 ^ 63 → concatenated new ≡ before cs p ++ (k, v) ∷ from cs p → AreFilled new → IsWhole cmp new (len + 1)
  whole_inserted o v {new = new} {len = len} whole room written filled =
      whole_gathered new (before cs p ++ (k, v) ∷ from cs p) (len + 1) written
      (sorted_insert o k v (before cs p) (from cs p) gap.below gap.above (subst (IsLedger cmp) (sym (before-from cs p)) whole.in_chunks.ordered)) filled
      (omega (arith, whole.counted, ap length (before-from cs p), length-append (before cs p) (from cs p), length-append (before cs p) ((k, v) ∷ from cs p))) room
