-- The rows of a region, which share a position with it: those of a merge, a cluster and a complement.
use Rattle.std.specs.Prelude.{ℕ, Bool, List, filter}
use Rattle.std.specs.List.{flat_map}
use Rattle.iv_lines.specs.Genome.{Sequences, sequence_name}
use Rattle.iv_lines.specs.RecordValue.{RecordValue}
use Rattle.iv_track.specs.Regions.{hits, shares}
use Rattle.iv_cover.specs.Runs.{Run}
use Rattle.iv_blocks.specs.ClusterRows.{cluster_row}
use Rattle.iv_blocks.specs.ComplementRows.{gap_row, gaps}
use Rattle.iv_blocks.specs.Groups.{listed, sides}
use Rattle.iv_blocks.specs.MergeRows.{block_row, side_blocks}
use Rattle.iv_blocks.specs.declared.options.BlockOptions.{BlockOptions}

-- the blocks of one side of a sequence that share a position with the region, by start
abbrev pub side_blocks_in : BlockOptions → Sequences → List RecordValue → ℕ → ℕ → ℕ → Bool → List (ℕ × (ℕ × List RecordValue))
side_blocks_in o g records seq start stop minus = filter (λ b. shares start stop b.0 b.1.0) (side_blocks o g records seq minus)

-- the rows of the blocks of a sequence that share a position with the region, those of each side together
abbrev pub merge_text_in : BlockOptions → Sequences → List RecordValue → ℕ → ℕ → ℕ → List ℕ
merge_text_in o g records seq start stop =
    flat_map (λ minus. flat_map (block_row (sequence_name g seq) (listed o.summaries)) (side_blocks_in o g records seq start stop minus)) (sides o.stranded)

-- the blocks of each side that share a position with the region, by which the steps of a print are counted
abbrev pub blocks_in : BlockOptions → Sequences → List RecordValue → ℕ → ℕ → ℕ → List (ℕ × (ℕ × List RecordValue))
blocks_in o g records seq start stop = flat_map (side_blocks_in o g records seq start stop) (sides o.stranded)

-- the gaps of a sequence that share a position with the region
abbrev pub gaps_in : Bool → Sequences → List RecordValue → ℕ → ℕ → ℕ → List Run
gaps_in limited g records seq start stop = filter (λ gap. shares start stop gap.start gap.stop) (gaps limited g records seq)

-- the rows of the gaps of a sequence that share a position with the region
abbrev pub complement_text_in : Bool → Sequences → List RecordValue → ℕ → ℕ → ℕ → List ℕ
complement_text_in limited g records seq start stop = flat_map (gap_row (sequence_name g seq)) (gaps_in limited g records seq start stop)

-- the rows of the records that share a position with the region, with the numbers of their blocks among all
abbrev pub cluster_text_in : ℕ → Sequences → List RecordValue → ℕ → ℕ → ℕ → List ℕ
cluster_text_in d g records seq start stop = flat_map (cluster_row d g records) (hits records seq start stop)
