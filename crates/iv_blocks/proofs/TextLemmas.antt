-- The text of the definition, sequence by sequence.
use Rattle.std.proofs.Common.{ℕ, suc, ◌+◌, ◌-◌, ◌<◌, ◌≡◌, ◌==◌, Bool, true, List, [], ◌++◌, map, filter, None, sym, ap, ◌∙◌, All, append-nil, arith, eq-eqb}
use Rattle.std.specs.List.{flat_map, range_with_len}
use Rattle.std.proofs.lemmas.List.Folds.{flat_map-map}
use Rattle.iv_lines.specs.Genome.{Sequences, seq_count, sequence_name, sequence_length}
use Rattle.iv_lines.specs.Ordered.{AreInOrder}
use Rattle.iv_lines.specs.Read.{IsOnGenome}
use Rattle.iv_lines.specs.RecordValue.{RecordValue, record_cmp}
use Rattle.iv_cover.specs.Blocks.{blocks_below, start_of, stop_of}
use Rattle.iv_cover.specs.Inside.RemainingBlocks.{remaining_blocks}
use Rattle.iv_cover.specs.Inside.TrackBlocks.{BlockWithMembers, block_on, blocks_on}
use Rattle.iv_lines.specs.CoveredPositions.{on}
use Rattle.iv_lines.proofs.InOrderLemmas.{in_order-filter}
use Rattle.iv_cover.proofs.WalkLemmas.{gathered-more, gathered-none_from, merge-all, on-none, blocks-none}
use Rattle.iv_lines.proofs.ListLemmas.{all-mem, mem-all, filter-filter, filter-all}
use Rattle.iv_blocks.specs.Groups.{group, is_on_side, listed, sides}
use Rattle.iv_blocks.specs.Inside.Groups.{is_in_group, is_on}
use Rattle.iv_blocks.specs.MergeRows.{side_rows}
use Rattle.iv_blocks.specs.declared.options.BlockOptions.{BlockOptions}
use Rattle.iv_blocks.proofs.KeptLemmas.{flat_map-agree, group-in}
use Rattle.iv_blocks.specs.Inside.MergeSweeps.{group_row, group_rows, sequence_rows}
use Rattle.iv_blocks.specs.declared.group.Side.TheVariants.{Plus, Minus}

-- the first of the ranks that are left
ranks-next : (f : ℕ → List ℕ) (seq count : ℕ) → seq < count → flat_map f (range_with_len seq (count - seq)) ≡ f seq ++ flat_map f (range_with_len (seq + 1) (count - (seq + 1)))
ranks-next f seq count low =
    let more : count - seq ≡ suc (count - (seq + 1)) = omega arith in
    ap (λ (n : ℕ). flat_map f (range_with_len seq n)) more

-- ---- strands apart

pub apart : (o : BlockOptions) (name : List ℕ) (records : List RecordValue) → o.stranded ≡ true
    → sequence_rows o name records ≡ group_rows o name (filter (is_on Plus) records) ++ group_rows o name (filter (is_on Minus) records)
apart o name records is =
    ap (λ (b : Bool). flat_map (λ minus. group_rows o name (filter (is_on_side b minus) records)) (sides b)) is
    ∙ ap (λ (l : List ℕ). group_rows o name (filter (is_on Plus) records) ++ l) (append-nil (group_rows o name (filter (is_on Minus) records)))

-- ---- the rows of one sequence

module _ (o : BlockOptions) (g : Sequences) (records : List RecordValue) (order : AreInOrder records) (lie : All (IsOnGenome g) records) where
  -- the rows of the sequence of this rank
  abbrev pub rank_rows : ℕ → List ℕ
  rank_rows seq = flat_map (side_rows o g records seq) (sides o.stranded)

  -- the group's records
  abbrev of : ℕ → Bool → List RecordValue
  of seq minus = group o.stranded seq minus records

  elsewhere : (seq : ℕ) (minus : Bool) (k : ℕ) → (k ≡ seq → ⊥) → blocks_on o.distance g (of seq minus) k ≡ []
  elsewhere seq minus k other =
      let none : on k (of seq minus) ≡ [] = on-none k (of seq minus) (λ q m at. other (sym at ∙ (group-in o.stranded seq minus records q m).1)) in
      ap (λ (l : List RecordValue). map (block_on k) (blocks_below start_of stop_of o.distance l (sequence_length g k))) none
      ∙ ap (map (block_on k)) (blocks-none o.distance (sequence_length g k))

  -- its blocks are those of the one sequence
  one-sequence : (seq : ℕ) (minus : Bool) → seq < seq_count g
      → remaining_blocks o.distance None (of seq minus) ≡ map (block_on seq) (blocks_below start_of stop_of o.distance (of seq minus) (sequence_length g seq))
  one-sequence seq minus low =
      let G = of seq minus in
      let f = blocks_on o.distance g G in
      let same : on seq G ≡ G = filter-all (λ (q : RecordValue). q.seq == seq) G (λ q m. eq-eqb q.seq seq (group-in o.stranded seq minus records q m).1) in
      merge-all o.distance g G (in_order-filter record_cmp (is_in_group o.stranded seq minus) records order)
      (mem-all (IsOnGenome g) G (λ q m. all-mem (IsOnGenome g) records lie q (group-in o.stranded seq minus records q m).0))
      ∙ gathered-none_from f (seq_count g) (suc seq) (omega arith) (λ j above below. elsewhere seq minus j (λ at. omega (arith, at)))
      ∙ gathered-more f seq
      ∙ ap (λ (l : List BlockWithMembers). l ++ f seq) (gathered-none_from f seq 0 (omega arith) (λ j above below. elsewhere seq minus j (λ at. omega (arith, at))))
      ∙ ap (λ (l : List RecordValue). map (block_on seq) (blocks_below start_of stop_of o.distance l (sequence_length g seq))) same

  side-is : (seq : ℕ) (minus : Bool) → seq < seq_count g
      → group_rows o (sequence_name g seq) (filter (is_on_side o.stranded minus) (on seq records)) ≡ side_rows o g records seq minus
  side-is seq minus low =
      let name = sequence_name g seq in
      let asked = listed o.summaries in
      ap (group_rows o name) (filter-filter (is_on_side o.stranded minus) (λ (q : RecordValue). q.seq == seq) records)
      ∙ ap (flat_map (group_row name asked)) (one-sequence seq minus low)
      ∙ flat_map-map (group_row name asked) (block_on seq) (blocks_below start_of stop_of o.distance (of seq minus) (sequence_length g seq))

  seq-is : (seq : ℕ) → seq < seq_count g → sequence_rows o (sequence_name g seq) (on seq records) ≡ rank_rows seq
  seq-is seq low =
      flat_map-agree (λ minus. group_rows o (sequence_name g seq) (filter (is_on_side o.stranded minus) (on seq records))) (side_rows o g records seq) (sides o.stranded)
      (λ minus. side-is seq minus low)

  -- the rows of the first of the sequences that are left, as they are put, and those of the sequences after it
  pub rows-next : (p : BlockOptions) (name : List ℕ) (here : List RecordValue) (seq : ℕ) → seq < seq_count g → p ≡ o → name ≡ sequence_name g seq → here ≡ on seq records
      → flat_map rank_rows (range_with_len seq (seq_count g - seq)) ≡ sequence_rows p name here ++ flat_map rank_rows (range_with_len (seq + 1) (seq_count g - (seq + 1)))
  rows-next p name here seq low options named is =
      let rest : List ℕ = flat_map rank_rows (range_with_len (seq + 1) (seq_count g - (seq + 1))) in
      ranks-next rank_rows seq (seq_count g) low
      ∙ ap (λ (l : List ℕ). l ++ rest) (sym (seq-is seq low))
      ∙ ap (λ (l : List RecordValue). sequence_rows o (sequence_name g seq) l ++ rest) (sym is)
      ∙ ap (λ (n : List ℕ). sequence_rows o n here ++ rest) (sym named)
      ∙ ap (λ (q : BlockOptions). sequence_rows q name here ++ rest) (sym options)
