-- The entries that are kept are the definition's blocks, in order.
use Rattle.std.proofs.Common.{◌≡◌, ℕ, ◌<◌, ◌≤◌, ◌==◌, Bool, true, false, List, [], ◌∷◌, ◌++◌, map, length, filter_map, Option, Some, None, refl, sym, ◌∙◌, ap, arith, append-nil, eqb-true, All}
use Rattle.std.specs.List.{flat_map, range_with_len, cons_option}
use Rattle.std.specs.Option.{option_map}
use Rattle.std.proofs.lemmas.Bool.{and_parts, and_right}
use Rattle.std.proofs.lemmas.List.Concat.{flat_map-append}
use Rattle.iv_lines.specs.Genome.{Sequences, seq_count, sequence_name, sequence_length}
use Rattle.iv_lines.specs.Named.{names_of}
use Rattle.iv_lines.specs.Read.{Fits}
use Rattle.iv_lines.specs.RecordValue.{RecordValue}
use Rattle.iv_cover.specs.Blocks.{block_at, blocks_below, start_of, stop_of}
use Rattle.iv_cover.proofs.Cover.{no_start-test, block_at-none}
use Rattle.iv_cover.proofs.WalkLemmas.{blocks-none}
use Rattle.iv_cover.proofs.Positions.{values-agree}
use Rattle.iv_lines.proofs.ListLemmas.{Mem, mem-filter, all-mem, filter-none, option_map-map}
use Rattle.iv_blocks.specs.Inside.Groups.{is_in_group}
use Rattle.iv_blocks.specs.Groups.{is_on_side, group, sides, listed}
use Rattle.iv_blocks.specs.KeptBlocks.{Key, Kept, Entries, AreBlocksOf, kept_at, kept_block, name_of}
use Rattle.iv_blocks.specs.MergeRows.{side_blocks}
use Rattle.iv_blocks.specs.declared.options.BlockOptions.{BlockOptions}
use Rattle.iv_blocks.proofs.EntryLemmas.{side_entries, rank_entries, entries-all}
use Rattle.iv_blocks.proofs.NameLemmas.{name-same}

-- ---- lists

pub map-filter_map : {X Y Z : Type 0} (h : Y → Z) (f : X → Option Y) (xs : List X) → map h (filter_map f xs) ≡ filter_map (λ x. option_map h (f x)) xs
map-filter_map h f [] = refl
map-filter_map h f (x ∷ xs) = elim (f x) as (λ o. map h (cons_option o (filter_map f xs)) ≡ cons_option (option_map h o) (filter_map (λ x. option_map h (f x)) xs)) [
  | None ↦ map-filter_map h f xs
  | Some y ↦ ap (λ l. h y ∷ l) (map-filter_map h f xs)
]

pub flat_map-agree : {X Y : Type 0} (f h : X → List Y) (xs : List X) → ((x : X) → f x ≡ h x) → flat_map f xs ≡ flat_map h xs
flat_map-agree {X} {Y} f h xs same = ap (λ (k : X → List Y). flat_map k xs) (λ i x. same x i)

pub flat_map-flat_map : {X Y Z : Type 0} (h : Y → List Z) (f : X → List Y) (xs : List X) → flat_map h (flat_map f xs) ≡ flat_map (λ x. flat_map h (f x)) xs
flat_map-flat_map {Z} h f [] = refl
flat_map-flat_map {Z} h f (x ∷ xs) = flat_map-append h (f x) (flat_map f xs) ∙ ap (λ (l : List Z). flat_map h (f x) ++ l) (flat_map-flat_map h f xs)

-- ---- groups

pub group-in : (stranded : Bool) (s : ℕ) (t : Bool) (records : List RecordValue) (q : RecordValue) → Mem q (group stranded s t records) → Mem q records × (q.seq ≡ s)
group-in stranded s t records q m =
    let both = mem-filter (is_in_group stranded s t) records q m in
    (both.0, eqb-true _ _ (and_parts (q.seq == s) (is_on_side stranded t q) both.1).0)

-- with strands together no record is on the other side
pub group-other : (s : ℕ) (records : List RecordValue) → group false s true records ≡ []
group-other s records = filter-none (is_in_group false s true) records (λ q m. and_right (q.seq == s) false refl)

-- the entry of a block
abbrev pub entry_of : BlockOptions → Sequences → ℕ → Bool → ℕ × (ℕ × List RecordValue) → Key × Kept
entry_of o g s t b = ((s, t, b.0), kept_block (sequence_name g s) (listed o.summaries) b.1)

-- the entries of a side are those of its blocks
pub side-is : (o : BlockOptions) (g : Sequences) (records : List RecordValue) (s : ℕ) (t : Bool) (n : ℕ)
    → side_entries (kept_at o (names_of g) records) s t n ≡ map (entry_of o g s t) (blocks_below start_of stop_of o.distance (group o.stranded s t records) n)
side-is o g records s t n =
    let at : ℕ → Option (ℕ × List RecordValue) = λ p. block_at start_of stop_of o.distance (group o.stranded s t records) p in
    values-agree (λ p. option_map (λ v. ((s, t, p), v)) (kept_at o (names_of g) records (s, t, p))) (λ p. option_map (entry_of o g s t) (option_map (λ b. (p, b)) (at p))) n
    (λ p below.
    option_map-map (λ v. ((s, t, p), v)) (kept_block (name_of (names_of g) s) (listed o.summaries)) (at p)
    ∙ ap (λ name. option_map (λ (b : ℕ × List RecordValue). ((s, t, p), kept_block name (listed o.summaries) b)) (at p)) (name-same g s)
    ∙ sym (option_map-map (entry_of o g s t) (λ b. (p, b)) (at p)))
    ∙ sym (map-filter_map (entry_of o g s t) (λ p. option_map (λ b. (p, b)) (at p)) (range_with_len 0 n))

pub side-other : (o : BlockOptions) (g : Sequences) (records : List RecordValue) (s : ℕ) (n : ℕ) → o.stranded ≡ false
    → side_entries (kept_at o (names_of g) records) s true n ≡ []
side-other o g records s n together =
    let none : group o.stranded s true records ≡ [] = ap (λ b. group b s true records) together ∙ group-other s records in
    side-is o g records s true n
    ∙ ap (λ (l : List RecordValue). map (entry_of o g s true) (blocks_below start_of stop_of o.distance l n)) none
    ∙ ap (map (entry_of o g s true)) (blocks-none o.distance n)

-- the entries of both sides are those of the sides that are printed
pub sides-are : (o : BlockOptions) (g : Sequences) (records : List RecordValue) (s : ℕ)
    → rank_entries (kept_at o (names_of g) records) (sequence_length g) s ≡ flat_map (λ t. map (entry_of o g s t) (side_blocks o g records s t)) (sides o.stranded)
sides-are o g records s = go o.stranded refl
  where
    first : List (Key × Kept)
    first = map (entry_of o g s false) (side_blocks o g records s false)

    other : List (Key × Kept)
    other = map (entry_of o g s true) (side_blocks o g records s true)

    go : (b : Bool) → o.stranded ≡ b
        → rank_entries (kept_at o (names_of g) records) (sequence_length g) s ≡ flat_map (λ t. map (entry_of o g s t) (side_blocks o g records s t)) (sides b)
    go true is =
        ap (λ (l : Entries). l ++ side_entries (kept_at o (names_of g) records) s true (sequence_length g s)) (side-is o g records s false (sequence_length g s))
        ∙ ap (λ (l : Entries). first ++ l) (side-is o g records s true (sequence_length g s) ∙ sym (append-nil other))
    go false is =
        ap (λ (l : Entries). l ++ side_entries (kept_at o (names_of g) records) s true (sequence_length g s)) (side-is o g records s false (sequence_length g s))
        ∙ ap (λ (l : Entries). first ++ l) (side-other o g records s (sequence_length g s) is)

module _ (o : BlockOptions) (g : Sequences) (width : ℕ) (records : List RecordValue) (fit : All (Fits g width) records) where
  no_block : (s : ℕ) (t : Bool) (p : ℕ) → ((q : RecordValue) → Mem q records → q.seq ≡ s → q.start ≡ p → ⊥) → kept_at o (names_of g) records (s, t, p) ≡ None
  no_block s t p none =
      ap (option_map (kept_block (name_of (names_of g) s) (listed o.summaries)))
      (block_at-none start_of stop_of o.distance (group o.stranded s t records) p
      (no_start-test start_of stop_of o.distance (group o.stranded s t records) p (λ q m at. let both = group-in o.stranded s t records q m in none q both.0 both.1 at)))

  -- no block starts past the end of its sequence
  pub none-past : (s : ℕ) (t : Bool) (p : ℕ) → sequence_length g s ≤ p → kept_at o (names_of g) records (s, t, p) ≡ None
  none-past s t p high = no_block s t p (λ q m seq at.
      let is_placed = (all-mem (Fits g width) records fit q m).is_placed in
      let stop : q.stop ≤ sequence_length g s = rw seq at is_placed.within.1 in
      omega (arith, is_placed.some, stop, at, high))

  -- nor past the last sequence
  pub none-later : (s : ℕ) (t : Bool) (p : ℕ) → seq_count g ≤ s → kept_at o (names_of g) records (s, t, p) ≡ None
  none-later s t p high = no_block s t p (λ q m seq at.
      let low : q.seq < length g = (all-mem (Fits g width) records fit q m).is_placed.within.0 in
      omega (arith, low, seq, high))

  -- the entries are the definition's blocks, in order
  pub entries-are : (entries : Entries) → AreBlocksOf o (names_of g) records entries
      → entries ≡ flat_map (λ s. flat_map (λ t. map (entry_of o g s t) (side_blocks o g records s t)) (sides o.stranded)) (range_with_len 0 (seq_count g))
  entries-are entries right =
      entries-all (kept_at o (names_of g) records) (sequence_length g) entries right.ordered right.blocks none-past (seq_count g) none-later
      ∙ flat_map-agree (rank_entries (kept_at o (names_of g) records) (sequence_length g)) (λ s. flat_map (λ t. map (entry_of o g s t) (side_blocks o g records s t)) (sides o.stranded))
      (range_with_len 0 (seq_count g)) (sides-are o g records)
