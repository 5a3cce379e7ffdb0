-- Sides, and the records of a group that start within a range.
use Rattle.std.specs.Prelude.{ℕ, ◌+◌, slice_set, ◌==◌, ◌&&◌, nat_le, nat_lt, Bool, true, false, List, filter}
use Rattle.iv_lines.specs.RecordValue.{RecordValue}
use Rattle.iv_cover.specs.declared.column.Column.TheVariants.{Sequence}
use Rattle.iv_cover.specs.declared.column.ColumnSummary.{ColumnSummary}
use Rattle.iv_cover.specs.declared.op.Op.TheVariants.{Count}
use Rattle.iv_blocks.specs.declared.group.Group.{Group}
use Rattle.iv_blocks.specs.declared.group.Side.{Side}
use Rattle.iv_blocks.specs.declared.options.Summaries.{Summaries}
use Rattle.iv_blocks.specs.declared.group.Side.TheVariants as side
use Rattle.iv_blocks.specs.Groups.{is_on_side}

-- whether it is the side of one strand
abbrev pub is_apart : Side → Bool
is_apart side.Both = false
is_apart side.Plus = true
is_apart side.Minus = true

-- whether it is the side of `-`
abbrev pub is_minus : Side → Bool
is_minus side.Both = false
is_minus side.Plus = false
is_minus side.Minus = true

-- the record is on this side: any is if strands are together; else it is one on `+`, or one on `-`
abbrev pub is_on : Side → RecordValue → Bool
is_on s r = is_on_side (is_apart s) (is_minus s) r

-- the record is on the sequence of this rank, and on this side
abbrev pub is_in_group : Bool → ℕ → Bool → RecordValue → Bool
is_in_group stranded seq minus r = (r.seq == seq) && is_on_side stranded minus r

-- the record starts at `from` or after, and below `to`
abbrev pub starts_between : ℕ → ℕ → RecordValue → Bool
starts_between from to r = nat_le from r.start && nat_lt r.start to

-- the records that start at `from` or after and below `to`
abbrev pub between : ℕ → ℕ → List RecordValue → List RecordValue
between from to records = filter (starts_between from to) records

-- those of them on the sequence of this rank, of any strand
abbrev pub between_on : ℕ → ℕ → ℕ → List RecordValue → List RecordValue
between_on seq from to records = filter (λ r. (r.seq == seq) && starts_between from to r) records

-- those of them in the group
abbrev pub members_between : Group → ℕ → ℕ → List RecordValue → List RecordValue
members_between g from to records = filter (λ r. is_in_group (is_apart g.side) g.seq (is_minus g.side) r && starts_between from to r) records

-- an entry that holds no summary
abbrev pub unused : ColumnSummary
unused = record { column = Sequence; op = Count }

-- one more summary at the end
abbrev pub pushed : Summaries → ColumnSummary → Summaries
pushed s summary = record { summaries = slice_set s.summaries s.count summary; count = s.count + 1 }
