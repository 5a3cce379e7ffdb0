-- The columns of records, and the results over a block's records.
use Rattle.std.specs.Prelude.{ℕ, ◌==◌, ◌++◌, List, [], ◌∷◌, map, Option, codes, decimal}
use Rattle.std.specs.List.{flat_map}
use Rattle.std.specs.Map.{lookup}
use Rattle.iv_lines.specs.RecordValue.{RecordValue}
use Rattle.iv_lines.specs.RecordText.{strand_text}
use Rattle.iv_cover.specs.Summaries.{summary_of}
use Rattle.iv_cover.specs.declared.column.Column.{Column}
use Rattle.iv_cover.specs.declared.column.Column.TheVariants.{Sequence, Start, Stop, Name, Score, Strand}
use Rattle.iv_cover.specs.declared.column.ColumnSummary.{ColumnSummary}

-- the column of this number, from 1
abbrev pub column_numbered : ℕ → Option Column
column_numbered n = lookup (λ number. n == number) ((1, Sequence) ∷ (2, Start) ∷ (3, Stop) ∷ (4, Name) ∷ (5, Score) ∷ (6, Strand) ∷ [])

-- the value of a record's column, if its sequence has this name; empty beyond the record's width
abbrev pub column_value : List ℕ → Column → RecordValue → List ℕ
column_value sequence Sequence r = sequence
column_value sequence Start r = decimal r.start
column_value sequence Stop r = decimal r.stop
column_value sequence Name r = r.name
column_value sequence Score r = r.score
column_value sequence Strand r = strand_text r.strand

-- all results over records on a sequence of this name, each with a TAB in front of it
abbrev pub results_over : List ℕ → List ColumnSummary → List RecordValue → List ℕ
results_over sequence summaries records = flat_map (λ s. codes "\t" ++ summary_of s.op (map (column_value sequence s.column) records)) summaries
