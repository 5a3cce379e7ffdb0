-- What the prints of views over blocks are made of, beside the rows.
use Rattle.std.specs.Prelude.{ℕ, ◌+◌, ◌++◌, ◌==◌, Bool, ◌||◌, not, List, codes, decimal}
use Rattle.std.specs.List.{list_any}
use Rattle.iv_lines.specs.Genome.{Sequences, sequence_name}
use Rattle.iv_lines.specs.RecordValue.{RecordValue}
use Rattle.iv_blocks.specs.ClusterRows.{blocks_until}
use Rattle.iv_blocks.specs.KeptBlocks.{Key, Kept}

-- the row of a block as it is kept
abbrev pub entry_row : Sequences → Key × Kept → List ℕ
entry_row g e = sequence_name g e.0.0 ++ codes "\t" ++ decimal e.0.2 ++ codes "\t" ++ decimal e.1.stop ++ e.1.results ++ codes "\n"

-- the number of a record's block, from 1: how many blocks there are up to its own
abbrev pub block_number : ℕ → Sequences → List RecordValue → RecordValue → ℕ
block_number d g records r = blocks_until d g records r.seq (r.start + 1)

-- the sequence of this rank is shown: each is, or if only some are, those with a record
abbrev pub is_shown : Bool → List RecordValue → ℕ → Bool
is_shown limited records seq = not limited || list_any (λ r. r.seq == seq) records
