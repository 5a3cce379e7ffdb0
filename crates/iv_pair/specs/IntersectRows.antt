-- The rows of an intersect.
use Rattle.std.specs.Prelude.{ℕ, ◌++◌, List, [], ◌∷◌, min, max, length, codes, decimal}
use Rattle.std.specs.List.{flat_map}
use Rattle.iv_lines.specs.Genome.{Sequences}
use Rattle.iv_lines.specs.RecordText.{record_text}
use Rattle.iv_lines.specs.RecordValue.{RecordValue, part}
use Rattle.iv_pair.specs.declared.intersect.IntersectOutput.{IntersectOutput}
use Rattle.iv_pair.specs.declared.intersect.IntersectOutput.TheVariants.{Shared, SharedAndHit, Whole, WholeAndHit, IfHit, IfNoHit, Count}

-- the line of a record: its columns and a line feed
abbrev pub record_line : Sequences → RecordValue → List ℕ
record_line g r = record_text g r ++ codes "\n"

-- the line of a record with another after it
abbrev pub pair_line : Sequences → RecordValue → RecordValue → List ℕ
pair_line g a b = record_text g a ++ (codes "\t" ++ record_line g b)

-- the part of a that it shares with b
abbrev pub shared : RecordValue → RecordValue → RecordValue
shared a b = part a (max a.start b.start) (min a.stop b.stop)

-- the rows of a record and its hits: one for each hit, or the record if it has a hit or has none, or the record and how many it has
abbrev pub intersect_rows : IntersectOutput → Sequences → RecordValue → List RecordValue → List ℕ
intersect_rows Shared g a found = flat_map (λ b. record_line g (shared a b)) found
intersect_rows SharedAndHit g a found = flat_map (λ b. pair_line g (shared a b) b) found
intersect_rows Whole g a found = flat_map (λ b. record_line g a) found
intersect_rows WholeAndHit g a found = flat_map (λ b. pair_line g a b) found
intersect_rows IfHit g a [] = []
intersect_rows IfHit g a (b ∷ found) = record_line g a
intersect_rows IfNoHit g a [] = record_line g a
intersect_rows IfNoHit g a (b ∷ found) = []
intersect_rows Count g a found = record_text g a ++ (codes "\t" ++ (decimal (length found) ++ codes "\n"))
