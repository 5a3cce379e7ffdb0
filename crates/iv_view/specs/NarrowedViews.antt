-- A view that was read for records of six columns beside both files, on fewer columns or without one of the files.
use Rattle.std.specs.Prelude.{ℕ, Bool, not, nat_le, nat_lt, ◌&&◌, if◌then◌else◌, List, Some, Result, Ok, Err}
use Rattle.std.specs.List.{list_all}
use Rattle.iv_lines.specs.declared.fault.Fault.{Fault}
use Rattle.iv_lines.specs.declared.fault.Fault.TheVariants as fault
use Rattle.iv_cover.specs.declared.column.Column.{Column}
use Rattle.iv_cover.specs.declared.column.Column.TheVariants.{Sequence, Start, Stop, Name, Score, Strand}
use Rattle.iv_cover.specs.declared.column.ColumnSummary.{ColumnSummary}
use Rattle.iv_blocks.specs.Groups.{listed}
use Rattle.iv_blocks.specs.declared.options.BlockOptions.{BlockOptions}
use Rattle.iv_lines.specs.Chains.{if_ok}
use Rattle.iv_view.specs.Arguments.{beside_second, beside_fasta}
use Rattle.iv_view.specs.declared.view.View.{View}
use Rattle.iv_view.specs.declared.view.View.TheVariants as view
use Rattle.iv_view.specs.declared.view.KeptView.TheVariants as kept
use Rattle.iv_view.specs.declared.written_view.WrittenView.TheVariants as written

-- the number of a column, from 1
abbrev pub number_of : Column → ℕ
number_of Sequence = 1
number_of Start = 2
number_of Stop = 3
number_of Name = 4
number_of Score = 5
number_of Strand = 6

-- whether records of this width have the columns that are asked for
abbrev pub has_columns : ℕ → List ColumnSummary → Bool
has_columns width summaries = list_all (λ asked. nat_le (number_of asked.column) width) summaries

-- the options of a merge of records of this width; a fault if they lack a column that is asked for, and then if there are no
-- strands to keep apart
abbrev pub narrowed_options : ℕ → BlockOptions → Result BlockOptions Fault
narrowed_options width options =
    if not (has_columns width (listed options.summaries)) then Err fault.Column
    else if options.stranded && nat_lt width 6 then Err fault.NoStrand
    else Ok options

-- the view of a merge with these options
abbrev pub as_merge : Result BlockOptions Fault → Result View Fault
as_merge asked = if_ok asked (λ options. Ok (view.Kept (kept.Merge options)))

-- the view of records of this width, beside a second file and a FASTA file or without, or its first fault
abbrev pub narrowed : ℕ → Bool → Bool → View → Result View Fault
narrowed width has_second has_bases (view.Kept (kept.Merge options)) = as_merge (narrowed_options width options)
narrowed width has_second has_bases (view.Kept (kept.Cluster distance)) = Ok (view.Kept (kept.Cluster distance))
narrowed width has_second has_bases (view.Kept (kept.Complement limited)) = Ok (view.Kept (kept.Complement limited))
narrowed width has_second has_bases (view.Kept (kept.Genomecov shown)) = Ok (view.Kept (kept.Genomecov shown))
narrowed width has_second has_bases (view.Written (written.Paired output)) = beside_second has_second (Some output)
narrowed width has_second has_bases (view.Written (written.Getfasta shown)) = beside_fasta width has_bases (Some shown)
narrowed width has_second has_bases (view.Written written.Records) = Ok (view.Written written.Records)
