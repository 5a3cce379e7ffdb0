-- Which records of a track may be in one block.
use Rattle.std.specs.Prelude.{ℕ, ◌-◌, ◌++◌, length, replicate, ◌==◌, ◌&&◌, Bool, true, false, not, List, [], ◌∷◌, filter, take, Option, None, Some, if◌then◌else◌}
use Rattle.iv_lines.specs.RecordValue.{RecordValue}
use Rattle.iv_lines.specs.declared.record_ref.Strand.{Strand}
use Rattle.iv_cover.specs.declared.column.Column.TheVariants.{Sequence}
use Rattle.iv_cover.specs.declared.column.ColumnSummary.{ColumnSummary}
use Rattle.iv_cover.specs.declared.op.Op.TheVariants.{Count}
use Rattle.iv_blocks.specs.declared.options.BlockOptions.{BlockOptions}
use Rattle.iv_blocks.specs.declared.options.Summaries.{Summaries}
use Rattle.iv_lines.specs.declared.record_ref.Strand.TheVariants.{Plus, Minus, Dot}

-- the strand is the minus strand, or the plus strand
abbrev pub is_strand : Bool → Option Strand → Bool
is_strand minus None = false
is_strand minus (Some Plus) = not minus
is_strand minus (Some Minus) = minus
is_strand minus (Some Dot) = false

-- the record is on this side: all are on the first side, or with strands apart, those of `+` on the first and those of `-` on
-- the other
abbrev pub is_on_side : Bool → Bool → RecordValue → Bool
is_on_side stranded minus r = if stranded then is_strand minus r.strand else not minus

-- the records on the sequence of this rank and on this side
abbrev pub group : Bool → ℕ → Bool → List RecordValue → List RecordValue
group stranded seq minus records = filter (λ r. (r.seq == seq) && is_on_side stranded minus r) records

-- the sides whose blocks are printed, in order: with strands apart, `+` and then `-`
abbrev pub sides : Bool → List Bool
sides stranded = if stranded then false ∷ true ∷ [] else false ∷ []

-- the summaries, in order
abbrev pub listed : Summaries → List ColumnSummary
listed s = take s.count s.summaries

-- the summaries of a list of at most 16; the entries after them hold none
abbrev pub filled : List ColumnSummary → Summaries
filled summaries = record { summaries = summaries ++ replicate (16 - length summaries) (record { column = Sequence; op = Count }); count = length summaries }

-- records of both strands are joined at this distance, and there are no summaries
abbrev pub plain_options : ℕ → BlockOptions
plain_options distance = record { distance = distance; stranded = false; summaries = filled [] }
