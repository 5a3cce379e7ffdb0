-- The text of the definition is that of its blocks, one after another.
use Rattle.std.proofs.Common.{ℕ, ◌≡◌, ◌++◌, false, Bool, List, [], ap, ◌∙◌, sym, append-nil}
use Rattle.std.specs.Prelude.{codes, decimal}
use Rattle.std.specs.List.{flat_map, range_with_len}
use Rattle.std.proofs.lemmas.List.Folds.{flat_map-map}
use Rattle.iv_lines.specs.Genome.{Sequences, seq_count, sequence_name, sequence_length}
use Rattle.iv_lines.specs.RecordValue.{RecordValue}
use Rattle.iv_cover.specs.Blocks.{blocks_below, start_of, stop_of}
use Rattle.iv_cover.specs.Inside.TrackBlocks.{block_on, blocks_on, blocks_of}
use Rattle.iv_lines.specs.CoveredPositions.{on}
use Rattle.iv_cover.specs.declared.column.ColumnSummary.{ColumnSummary}
use Rattle.iv_blocks.specs.Groups.{group, sides, listed}
use Rattle.iv_blocks.specs.MergeRows.{block_row, side_rows, merge_text}
use Rattle.iv_blocks.specs.declared.options.BlockOptions.{BlockOptions}
use Rattle.iv_blocks.proofs.ClusterLemmas.{on-is}
use Rattle.iv_blocks.proofs.KeptLemmas.{flat_map-agree, flat_map-flat_map}
use Rattle.iv_blocks.specs.IntervalOptions.{IsByIntervals}
use Rattle.iv_blocks.specs.Inside.BlockSweeps.{interval_of, interval_row}

module _ (d : ℕ) (g : Sequences) (records : List RecordValue) (o : BlockOptions) (plain : IsByIntervals d o) where
  -- the row of a block without summaries
  plain-row : (s : ℕ) (b : ℕ × (ℕ × List RecordValue)) → interval_row g (interval_of (block_on s b)) ≡ block_row (sequence_name g s) [] b
  plain-row s b = ap (λ (l : List ℕ). l ++ codes "\n") (sym (append-nil (sequence_name g s ++ codes "\t" ++ decimal b.0 ++ codes "\t" ++ decimal b.1.0)))

  -- the rows of a sequence
  sequence-rows : (s : ℕ) → flat_map (λ b. interval_row g (interval_of b)) (blocks_on d g records s) ≡ flat_map (side_rows o g records s) (sides o.stranded)
  sequence-rows s =
      flat_map-map (λ b. interval_row g (interval_of b)) (block_on s) (blocks_below start_of stop_of d (on s records) (sequence_length g s))
      ∙ flat_map-agree (λ b. interval_row g (interval_of (block_on s b))) (block_row (sequence_name g s) []) (blocks_below start_of stop_of d (on s records) (sequence_length g s)) (plain-row s)
      ∙ ap (λ (asked : List ColumnSummary). flat_map (block_row (sequence_name g s) asked) (blocks_below start_of stop_of d (on s records) (sequence_length g s))) (sym plain.nothing)
      ∙ ap (λ (l : List RecordValue). flat_map (block_row (sequence_name g s) (listed o.summaries)) (blocks_below start_of stop_of d l (sequence_length g s))) (sym (on-is s records))
      ∙ ap (λ (n : ℕ). flat_map (block_row (sequence_name g s) (listed o.summaries)) (blocks_below start_of stop_of n (group false s false records) (sequence_length g s))) (sym plain.far)
      ∙ ap (λ (apart : Bool). flat_map (block_row (sequence_name g s) (listed o.summaries)) (blocks_below start_of stop_of o.distance (group apart s false records) (sequence_length g s))) (sym plain.together)
      ∙ sym (append-nil (side_rows o g records s false))
      ∙ ap (λ (apart : Bool). flat_map (side_rows o g records s) (sides apart)) (sym plain.together)

  pub text-blocks : flat_map (λ b. interval_row g (interval_of b)) (blocks_of d g records) ≡ merge_text o g records
  text-blocks =
      flat_map-flat_map (λ b. interval_row g (interval_of b)) (blocks_on d g records) (range_with_len 0 (seq_count g))
      ∙ flat_map-agree (λ s. flat_map (λ b. interval_row g (interval_of b)) (blocks_on d g records s)) (λ s. flat_map (side_rows o g records s) (sides o.stranded)) (range_with_len 0 (seq_count g)) sequence-rows
