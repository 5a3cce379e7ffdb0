-- Lines of one hit and of one part.
use Rattle.std.specs.Prelude.{◌≡◌, ℕ, true, nat_lt, if◌then◌else◌, List, []}
use Rattle.std.specs.List.{AllByRecursion}
use Rattle.iv_lines.specs.Genome.{Sequences}
use Rattle.iv_lines.specs.RecordValue.{RecordValue, part}
use Rattle.iv_track.specs.Regions.{overlaps}
use Rattle.iv_pair.specs.IntersectRows.{record_line, pair_line, shared}
use Rattle.iv_pair.specs.declared.intersect.IntersectOutput.{IntersectOutput}
use Rattle.iv_pair.specs.declared.intersect.IntersectOutput.TheVariants.{Shared, SharedAndHit, Whole, WholeAndHit, IfHit, IfNoHit, Count}

-- b shares a position with a
abbrev pub Overlaps : RecordValue → RecordValue → Type 0
Overlaps a b = overlaps a.seq a.start a.stop b ≡ true

-- each of these records shares a position with a
abbrev pub AllOverlap : RecordValue → List RecordValue → Type 0
AllOverlap a found = AllByRecursion (Overlaps a) found

-- the line of a record and one hit, empty if there is not a line for each hit
abbrev pub hit_line : IntersectOutput → Sequences → RecordValue → RecordValue → List ℕ
hit_line Shared g a b = record_line g (shared a b)
hit_line SharedAndHit g a b = pair_line g (shared a b) b
hit_line Whole g a b = record_line g a
hit_line WholeAndHit g a b = pair_line g a b
hit_line IfHit g a b = []
hit_line IfNoHit g a b = []
hit_line Count g a b = []

-- the line of a part, if it has a position
abbrev pub part_line : Sequences → RecordValue → ℕ → ℕ → List ℕ
part_line g a start stop = if nat_lt start stop then record_line g (part a start stop) else []
