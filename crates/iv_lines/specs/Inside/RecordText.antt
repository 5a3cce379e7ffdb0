-- Parts of a record as it is printed.
use Rattle.std.specs.Prelude.{ℕ, ◌++◌, ◌-◌, List, take, codes}
use Rattle.std.specs.List.{flat_map}
use Rattle.iv_lines.specs.Genome.{Sequences, sequence_name}
use Rattle.iv_lines.specs.RecordText.{interval_text}
use Rattle.iv_lines.specs.RecordValue.{RecordValue}

-- these columns, as many as the width has after the third, each with a TAB in front of it
abbrev pub tabbed : ℕ → List (List ℕ) → List ℕ
tabbed width columns = flat_map (λ column. codes "\t" ++ column) (take (width - 3) columns)

-- the first three columns of a record on this genome
abbrev pub interval_columns : Sequences → RecordValue → List ℕ
interval_columns g r = interval_text (sequence_name g r.seq) r.start r.stop
