-- What remains to be written during a sweep over blocks. This is the state of a print, as seen by its proof.
use Rattle.std.specs.Prelude.{ℕ, ◌+◌, ◌++◌, List, [], ◌∷◌, codes, decimal}
use Rattle.std.specs.List.{flat_map}
use Rattle.iv_lines.specs.Genome.{Sequences, sequence_name}
use Rattle.iv_lines.specs.RecordText.{record_text}
use Rattle.iv_lines.specs.RecordValue.{RecordValue}
use Rattle.iv_lines.specs.declared.interval.Interval.{Interval}
use Rattle.iv_cover.specs.Inside.TrackBlocks.{BlockWithMembers}

-- the interval of a block with members
abbrev pub interval_of : BlockWithMembers → Interval
interval_of b = record { seq = b.sequence; start = b.start; stop = b.stop }

-- the row of an interval: the sequence's name, start and stop between tabs, and a line feed
abbrev pub interval_row : Sequences → Interval → List ℕ
interval_row g b = sequence_name g b.seq ++ codes "\t" ++ decimal b.start ++ codes "\t" ++ decimal b.stop ++ codes "\n"

-- the row of a record with this number after its columns
abbrev pub numbered_row : Sequences → ℕ → RecordValue → List ℕ
numbered_row g number r = record_text g r ++ codes "\t" ++ decimal number ++ codes "\n"

-- the rows of the members of blocks, with the numbers of the blocks, of which the first follows this number
abbrev pub numbered_rows : Sequences → ℕ → List BlockWithMembers → List ℕ
numbered_rows g number [] = []
numbered_rows g number (b ∷ blocks) = flat_map (numbered_row g (number + 1)) b.members ++ numbered_rows g (number + 1) blocks
