-- Entries in order as a list of chunks, none of them empty.
use Rattle.std.specs.Prelude.{◌≡◌, ℕ, ◌+◌, ◌<◌, ◌≤◌, ◌^◌, Bool, true, List, [], ◌∷◌, ◌++◌, length, take, drop, All, vec_len, vec_capacity, slice_set}
use Rattle.std.specs.Vec.{vec_items}
use Rattle.std.specs.List.{flat_map, HoldsAt, insert}
use Rattle.std.specs.Ordering.{is_ge}
use Rattle.std.specs.declared.cmp.Ordering.{Ordering}
use Rattle.std.specs.declared.cmp.Ordering.TheVariants.{Less, Equal, Greater}
use Rattle.std.specs.declared.vec.Vec.{Vec}
use Rattle.iv_ledger.specs.Entries.{IsLedger}
use Rattle.iv_ledger.specs.declared.entry_index.EntryIndex.{EntryIndex}

-- the most entries that one chunk may have
abbrev pub most_in_chunk : ℕ
most_in_chunk = 256

-- the most that one has if all entries are given at once
abbrev pub most_at_once : ℕ
most_at_once = 240

module _ {X Z : Type 0} where
  -- the entries of the chunks, one chunk after another
  abbrev pub concatenated : List (Vec X Z) → List X
  concatenated chunks = flat_map vec_items chunks

  -- the chunk is not empty, and has no more entries than a chunk may
  abbrev pub IsFilled : Vec X Z → Type 0
  IsFilled chunk = (0 < vec_len chunk) × (vec_len chunk ≤ most_in_chunk)

  abbrev pub AreFilled : List (Vec X Z) → Type 0
  AreFilled chunks = All IsFilled chunks

  -- chunks, and entries after theirs that are few enough for one chunk: so many entries in all
  pub record ArePieces (chunks : List (Vec X Z)) (last : Vec X Z) (len : ℕ) : Type 0 where
    pub filled : AreFilled chunks
    pub few : vec_len last ≤ most_at_once
    pub counted : len ≡ length (concatenated chunks ++ vec_items last)
    pub small : len < 2 ^ 63

  -- the entries before an index, and those from it on
  abbrev pub before : List (Vec X Z) → EntryIndex → List X
  before chunks p = concatenated (take p.chunk chunks) ++ take p.index (concatenated (drop p.chunk chunks))

  abbrev pub from : List (Vec X Z) → EntryIndex → List X
  from chunks p = drop p.index (concatenated (drop p.chunk chunks))

  -- the index is of an entry
  pub record IsInside (chunks : List (Vec X Z)) (p : EntryIndex) : Type 0 where
    pub chunk_in_range : p.chunk < length chunks
    pub index_in_range : HoldsAt (λ chunk. p.index < vec_len chunk) chunks p.chunk

  -- the index is of an entry or at the end of a chunk, or there is no chunk
  pub record IsWithin (chunks : List (Vec X Z)) (p : EntryIndex) : Type 0 where
    pub chunk_in_range : 0 < length chunks → p.chunk < length chunks
    pub index_in_range : 0 < length chunks → HoldsAt (λ chunk. p.index ≤ vec_len chunk) chunks p.chunk

  -- the index q is in a chunk that is not full, and has the entries before it and from it on that p has in the old chunks
  pub record IsIndexWithRoom (old : List (Vec X Z)) (p : EntryIndex) (new : List (Vec X Z)) (q : EntryIndex) : Type 0 where
    pub chunk_in_range : q.chunk < length new
    pub index_in_range : HoldsAt (λ chunk. q.index ≤ vec_len chunk) new q.chunk
    pub has_room : HoldsAt (λ chunk. vec_len chunk < most_in_chunk) new q.chunk
    pub same_before : before new q ≡ before old p
    pub same_from : from new q ≡ from old p

  -- there is a chunk after the chunk c, and the entries of both together are few enough for one chunk, and for the room in c
  pub record AreSmall (chunks : List (Vec X Z)) (c : ℕ) : Type 0 where
    pub next_in_range : c + 1 < length chunks
    pub few : HoldsAt (λ chunk. HoldsAt (λ next. (vec_len chunk + vec_len next ≤ most_in_chunk) × (vec_len chunk + vec_len next ≤ vec_capacity chunk)) chunks (c + 1)) chunks c

  -- the chunk c is split into one with its first n entries and one with the others
  pub record IsSplit (old : List (Vec X Z)) (c n : ℕ) (new : List (Vec X Z)) : Type 0 where
    pub left : Vec X Z
    pub right : Vec X Z
    pub are : new ≡ insert (slice_set old c left) (c + 1) right
    pub first : HoldsAt (λ chunk. vec_items left ≡ take n (vec_items chunk)) old c
    pub others : HoldsAt (λ chunk. vec_items right ≡ drop n (vec_items chunk)) old c

module _ {K V Z : Type 0} (cmp : K → K → Ordering) where
  -- the keys ascend over all chunks, and each chunk has some entries, but not too many
  pub record AreChunks (chunks : List (Vec (K × V) Z)) : Type 0 where
    pub ordered : IsLedger cmp (concatenated chunks)
    pub filled : AreFilled chunks

  -- and there are so many entries
  pub record IsWhole (chunks : List (Vec (K × V) Z)) (len : ℕ) : Type 0 where
    pub in_chunks : AreChunks chunks
    pub counted : len ≡ length (concatenated chunks)
    pub small : len < 2 ^ 63

  -- the entry at the index has the key k
  pub record IsFound (chunks : List (Vec (K × V) Z)) (k : K) (p : EntryIndex) : Type 0 where
    pub inside : IsInside chunks p
    pub has_key : HoldsAt (λ chunk. HoldsAt (λ e. cmp k e.0 ≡ Equal) (vec_items chunk) p.index) chunks p.chunk

  -- the key k would go before the entry at the index: smaller keys before it, and greater keys from it on
  pub record IsGap (chunks : List (Vec (K × V) Z)) (k : K) (p : EntryIndex) : Type 0 where
    pub within : IsWithin chunks p
    pub first_is_first : p.index ≡ 0 → p.chunk ≡ 0
    pub some_before : 0 < p.index → p.chunk < length chunks
    pub below : All (λ e. cmp k e.0 ≡ Greater) (before chunks p)
    pub above : All (λ e. cmp k e.0 ≡ Less) (from chunks p)

-- whether the first of some keys is k or before it
abbrev pub starts_by : {K V : Type 0} → (K → K → Ordering) → K → List (K × V) → Bool
starts_by cmp k [] = true
starts_by cmp k (e ∷ es) = is_ge (cmp k e.0)
