-- The text of `records`, as its print has it.
use Rattle.std.specs.Prelude.{ℕ, List}
use Rattle.std.specs.List.{flat_map}
use Rattle.iv_lines.specs.Genome.{Sequences}
use Rattle.iv_lines.specs.RecordValue.{RecordValue}
use Rattle.iv_pair.specs.IntersectRows.{record_line}

-- the line of each record, in the order of the list
abbrev pub records_text : Sequences → List RecordValue → List ℕ
records_text g records = flat_map (record_line g) records
