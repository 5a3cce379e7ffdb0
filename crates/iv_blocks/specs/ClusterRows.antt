-- The rows of a cluster.
use Rattle.std.specs.Prelude.{ℕ, ◌+◌, ◌++◌, List, length, map, sum, codes, decimal}
use Rattle.std.specs.List.{flat_map, range_with_len}
use Rattle.iv_lines.specs.Genome.{Sequences, sequence_length}
use Rattle.iv_lines.specs.RecordText.{record_text}
use Rattle.iv_lines.specs.RecordValue.{RecordValue}
use Rattle.iv_cover.specs.Blocks.{blocks_below, start_of, stop_of}
use Rattle.iv_lines.specs.CoveredPositions.{on}

-- how many blocks start below a position of the sequence of this rank
abbrev pub blocks_before : ℕ → List RecordValue → ℕ → ℕ → ℕ
blocks_before d records seq position = length (blocks_below start_of stop_of d (on seq records) position)

-- how many blocks there are on sequences before the one of this rank, and on it below a position
abbrev pub blocks_until : ℕ → Sequences → List RecordValue → ℕ → ℕ → ℕ
blocks_until d g records seq position =
    sum (map (λ s. blocks_before d records s (sequence_length g s)) (range_with_len 0 seq)) + blocks_before d records seq position

-- the row of a record: its columns, the number of its block from 1, which is how many blocks there are up to its own, and a line feed
abbrev pub cluster_row : ℕ → Sequences → List RecordValue → RecordValue → List ℕ
cluster_row d g records r = record_text g r ++ codes "\t" ++ decimal (blocks_until d g records r.seq (r.start + 1)) ++ codes "\n"

-- all rows of a cluster: one for each record, in the order of the track
abbrev pub cluster_text : ℕ → Sequences → List RecordValue → List ℕ
cluster_text d g records = flat_map (cluster_row d g records) records
