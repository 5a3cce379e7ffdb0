-- The order of a track by parts of a record.
use Rattle.std.specs.Option.{option_cmp}
use Rattle.std.specs.declared.cmp.Ordering.{Ordering}
use Rattle.std.specs.Ordering.{nat_cmp, ordering_then}
use Rattle.std.specs.Cmp.Lexicographic.{slice_cmp}
use Rattle.iv_lines.specs.RecordValue.{RecordValue, strand_byte}
use Rattle.iv_lines.specs.declared.record_ref.Strand.{Strand}

-- strands in the order of their bytes
abbrev pub strand_cmp : Strand → Strand → Ordering
strand_cmp a b = nat_cmp (strand_byte a) (strand_byte b)

-- the order by the columns after the third
abbrev pub beside_cmp : RecordValue → RecordValue → Ordering
beside_cmp a b =
    ordering_then (slice_cmp nat_cmp a.name b.name)
    (ordering_then (slice_cmp nat_cmp a.score b.score)
    (ordering_then (option_cmp strand_cmp a.strand b.strand)
    (nat_cmp a.width b.width)))
