-- Where the blocks of records are.
use Rattle.std.proofs.Common.{◌≡◌, ℕ, Bool, false, not, List, map, Option, Some, None, refl, sym, ◌∙◌, ap, All}
use Rattle.std.specs.List.{range_with_len}
use Rattle.std.specs.Option.{option_map}
use Rattle.iv_lines.specs.Genome.{Sequences, seq_count, sequence_length}
use Rattle.iv_lines.specs.Read.{IsOnGenome}
use Rattle.iv_lines.specs.RecordValue.{RecordValue}
use Rattle.iv_cover.specs.Blocks.{block_at, blocks_below, start_of, stop_of}
use Rattle.iv_cover.specs.Inside.TrackBlocks.{block_on, blocks_on, blocks_of}
use Rattle.iv_cover.proofs.Positions.{values-agree}
use Rattle.iv_blocks.specs.ComplementRows.{complement_text}
use Rattle.iv_blocks.specs.Groups.{group}
use Rattle.iv_blocks.proofs.ClusterLemmas.{on-is}
use Rattle.iv_blocks.proofs.ComplementLemmas.{place_of, interval_at, intervals_on, gaps-of_blocks}
use Rattle.iv_blocks.proofs.KeptLemmas.{flat_map-agree, map-filter_map}
use Rattle.iv_blocks.proofs.UnstrandedLemmas.{map-flat_map}
use Rattle.iv_blocks.specs.Inside.BlockCursor.{texts}
use Rattle.iv_blocks.specs.Inside.BlockSweeps.{interval_of}

-- ---- where the blocks are

place-of : (s x : ℕ) (at : Option (ℕ × List RecordValue)) → option_map interval_of (option_map (block_on s) (option_map (λ (b : ℕ × List RecordValue). (x, b)) at)) ≡ place_of s x at
place-of s x None = refl
place-of s x (Some b) = refl

module _ (g : Sequences) (records : List RecordValue) where
  sequence-is_placed : (s : ℕ) → map interval_of (blocks_on 0 g records s) ≡ intervals_on g records s
  sequence-is_placed s =
      let n : ℕ = sequence_length g s in
      ap (λ (l : List RecordValue). map interval_of (map (block_on s) (blocks_below start_of stop_of 0 l n))) (sym (on-is s records))
      ∙ ap (map interval_of) (map-filter_map (block_on s) (λ x. option_map (λ b. (x, b)) (block_at start_of stop_of 0 (group false s false records) x)) (range_with_len 0 n))
      ∙ map-filter_map interval_of (λ x. option_map (block_on s) (option_map (λ b. (x, b)) (block_at start_of stop_of 0 (group false s false records) x))) (range_with_len 0 n)
      ∙ values-agree (λ x. option_map interval_of (option_map (block_on s) (option_map (λ b. (x, b)) (block_at start_of stop_of 0 (group false s false records) x)))) (interval_at records s) n
      (λ x below. place-of s x (block_at start_of stop_of 0 (group false s false records) x))

  -- the rows of all gaps
  pub gap-texts : (limited : Bool) → All (IsOnGenome g) records → texts (not limited) g 0 (seq_count g) (map interval_of (blocks_of 0 g records)) ≡ complement_text limited g records
  gap-texts limited lie =
      ap (texts (not limited) g 0 (seq_count g))
      (map-flat_map interval_of (blocks_on 0 g records) (range_with_len 0 (seq_count g))
      ∙ flat_map-agree (λ s. map interval_of (blocks_on 0 g records s)) (intervals_on g records) (range_with_len 0 (seq_count g)) sequence-is_placed)
      ∙ gaps-of_blocks g records lie limited
