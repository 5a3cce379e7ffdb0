-- The blocks of a walk with strands together, as they are kept.
use Rattle.std.proofs.Common.{◌≡◌, ℕ, false, List, [], ◌∷◌, ◌++◌, map, ◌==◌, refl, sym, ◌∙◌, ap, subst, append-nil, All}
use Rattle.std.specs.List.{flat_map, range_with_len}
use Rattle.std.proofs.lemmas.List.Elements.{All-weaker}
use Rattle.std.proofs.Math.Bool.{and-true}
use Rattle.std.proofs.lemmas.List.{map-append}
use Rattle.iv_lines.specs.Genome.{Sequences, seq_count, sequence_length}
use Rattle.iv_lines.specs.Named.{names_of}
use Rattle.iv_lines.specs.Read.{Fits, IsOnGenome}
use Rattle.iv_lines.specs.RecordValue.{RecordValue}
use Rattle.iv_cover.specs.Blocks.{blocks_below, start_of, stop_of}
use Rattle.iv_cover.specs.Inside.TrackBlocks.{BlockWithMembers, block_on, blocks_on, blocks_of}
use Rattle.iv_lines.specs.CoveredPositions.{on}
use Rattle.iv_lines.proofs.ListLemmas.{filter-agree}
use Rattle.iv_ledger.specs.Entries.{IsLedger, value_at}
use Rattle.iv_blocks.specs.Inside.Groups.{is_in_group}
use Rattle.iv_blocks.specs.Groups.{group, sides, listed}
use Rattle.iv_blocks.specs.KeptBlocks.{Key, Entries, key_cmp, kept_at}
use Rattle.iv_blocks.specs.MergeRows.{side_blocks}
use Rattle.iv_blocks.specs.Inside.UnstrandedBlocks.{kept_entry, stop_entry}
use Rattle.iv_blocks.specs.Inside.StoredBlocks.{plain_entry}
use Rattle.iv_blocks.specs.declared.options.BlockOptions.{BlockOptions}
use Rattle.iv_blocks.proofs.EntryLemmas.{rank_entries, all_entries}
use Rattle.iv_blocks.proofs.InOrderLemmas.{all-ordered, all-look}
use Rattle.iv_blocks.proofs.StoredLemmas.{ordered-plain, plain-alike}
use Rattle.iv_blocks.proofs.KeptLemmas.{flat_map-agree, entry_of, sides-are, none-past, none-later}

-- records that fit a genome are on it
pub all-lie : (g : Sequences) (width : ℕ) (records : List RecordValue) → All (Fits g width) records → All (IsOnGenome g) records
all-lie g width records fit = All-weaker (Fits g width) (IsOnGenome g) (λ r fits. fits.is_placed) records fit

pub map-flat_map : {X Y Z : Type 0} (h : Y → Z) (f : X → List Y) (xs : List X) → map h (flat_map f xs) ≡ flat_map (λ x. map h (f x)) xs
map-flat_map h f [] = refl
map-flat_map h f (x ∷ xs) = map-append h (f x) (flat_map f xs) ∙ ap (λ l. map h (f x) ++ l) (map-flat_map h f xs)

module _ (o : BlockOptions) (g : Sequences) (width : ℕ) (records : List RecordValue) (fit : All (Fits g width) records) (together : o.stranded ≡ false) where
  -- the records of a sequence are its one group
  group-on : (s : ℕ) → group o.stranded s false records ≡ on s records
  group-on s = ap (λ b. group b s false records) together
      ∙ filter-agree (is_in_group false s false) (λ r. r.seq == s) records (λ r m. and-true (r.seq == s))

  kept-block : (s : ℕ) (bs : List (ℕ × (ℕ × List RecordValue))) → map (kept_entry g (listed o.summaries)) (map (block_on s) bs) ≡ map (entry_of o g s false) bs
  kept-block s [] = refl
  kept-block s (b ∷ bs) = ap (λ (l : Entries). entry_of o g s false b ∷ l) (kept-block s bs)

  kept-on : (s : ℕ) → map (kept_entry g (listed o.summaries)) (blocks_on o.distance g records s) ≡ rank_entries (kept_at o (names_of g) records) (sequence_length g) s
  kept-on s =
      kept-block s (blocks_below start_of stop_of o.distance (on s records) (sequence_length g s))
      ∙ ap (λ l. map (entry_of o g s false) (blocks_below start_of stop_of o.distance l (sequence_length g s))) (sym (group-on s))
      ∙ sym (append-nil (map (entry_of o g s false) (side_blocks o g records s false)))
      ∙ ap (λ b. flat_map (λ t. map (entry_of o g s t) (side_blocks o g records s t)) (sides b)) (sym together)
      ∙ sym (sides-are o g records s)

  kept-all : map (kept_entry g (listed o.summaries)) (blocks_of o.distance g records) ≡ all_entries (kept_at o (names_of g) records) (sequence_length g) (seq_count g)
  kept-all =
      map-flat_map (kept_entry g (listed o.summaries)) (blocks_on o.distance g records) (range_with_len 0 (seq_count g))
      ∙ flat_map-agree (λ s. map (kept_entry g (listed o.summaries)) (blocks_on o.distance g records s)) (rank_entries (kept_at o (names_of g) records) (sequence_length g)) (range_with_len 0 (seq_count g)) kept-on

  -- they are in order, and all that is to be kept
  pub kept-ordered : IsLedger key_cmp (map (kept_entry g (listed o.summaries)) (blocks_of o.distance g records))
  kept-ordered = subst (IsLedger key_cmp) (sym kept-all) (all-ordered (kept_at o (names_of g) records) (sequence_length g) (seq_count g))

  pub kept-found : (k : Key) → value_at key_cmp (map (kept_entry g (listed o.summaries)) (blocks_of o.distance g records)) k ≡ kept_at o (names_of g) records k
  kept-found k = ap (λ (l : Entries). value_at key_cmp l k) kept-all
      ∙ all-look (kept_at o (names_of g) records) (sequence_length g) (seq_count g) (none-past o g width records fit) (none-later o g width records fit) k

  -- so are the stops, if there are no summaries
  module _ (none : listed o.summaries ≡ []) where
    plain-kept : (bs : List BlockWithMembers) → map plain_entry (map stop_entry bs) ≡ map (kept_entry g (listed o.summaries)) bs
    plain-kept [] = refl
    plain-kept (b ∷ bs) =
        ap (λ (l : Entries). plain_entry (stop_entry b) ∷ l) (plain-kept bs)
        ∙ ap (λ l. kept_entry g l b ∷ map (kept_entry g (listed o.summaries)) bs) (sym none)

    pub stops-ordered : IsLedger key_cmp (map stop_entry (blocks_of o.distance g records))
    stops-ordered = ordered-plain _ (subst (IsLedger key_cmp) (sym (plain-kept (blocks_of o.distance g records))) kept-ordered)

    pub stops-found : (l : List (Key × ℕ)) → ((k : Key) → value_at key_cmp l k ≡ value_at key_cmp (map stop_entry (blocks_of o.distance g records)) k)
        → (k : Key) → value_at key_cmp (map plain_entry l) k ≡ kept_at o (names_of g) records k
    stops-found l same k =
        plain-alike l (map stop_entry (blocks_of o.distance g records)) k (same k)
        ∙ ap (λ (es : Entries). value_at key_cmp es k) (plain-kept (blocks_of o.distance g records))
        ∙ kept-found k
