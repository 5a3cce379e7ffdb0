-- The rows of a complement.
use Rattle.std.specs.Prelude.{ℕ, ◌++◌, ◌==◌, Bool, ◌||◌, not, List, [], codes, decimal, if◌then◌else◌}
use Rattle.std.specs.List.{flat_map, list_any, range_with_len}
use Rattle.iv_lines.specs.Genome.{Sequences, seq_count, sequence_name, sequence_length}
use Rattle.iv_lines.specs.RecordValue.{RecordValue}
use Rattle.iv_cover.specs.Depth.{depth}
use Rattle.iv_cover.specs.Runs.{Run, empty_runs}

-- the row of a gap: the sequence's name, start and stop between tabs, and a line feed
abbrev pub gap_row : List ℕ → Run → List ℕ
gap_row name gap = name ++ codes "\t" ++ decimal gap.start ++ codes "\t" ++ decimal gap.stop ++ codes "\n"

-- the gaps of a sequence: the maximal intervals that no record covers; none if only sequences with a record are shown, and it has none
abbrev pub gaps : Bool → Sequences → List RecordValue → ℕ → List Run
gaps limited g records seq =
    if not limited || list_any (λ r. r.seq == seq) records then empty_runs (depth records seq) 0 (sequence_length g seq) else []

-- the rows of a complement on the sequence of this rank: one for each gap
abbrev pub gap_rows : Bool → Sequences → List RecordValue → ℕ → List ℕ
gap_rows limited g records seq = flat_map (gap_row (sequence_name g seq)) (gaps limited g records seq)

-- all rows of a complement: those of each sequence, by rank
abbrev pub complement_text : Bool → Sequences → List RecordValue → List ℕ
complement_text limited g records = flat_map (gap_rows limited g records) (range_with_len 0 (seq_count g))
