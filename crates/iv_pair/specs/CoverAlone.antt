-- Rows that depend on the second list only by which positions it covers.
use Rattle.std.specs.Prelude.{◌≡◌, ◌<◌, ℕ, Bool, true, false, List, All}
use Rattle.iv_lines.specs.Genome.{Sequences}
use Rattle.iv_lines.specs.RecordValue.{RecordValue}
use Rattle.iv_places.specs.Cover.{is_covered}
use Rattle.iv_pair.specs.PairRows.{pair_rows}
use Rattle.iv_pair.specs.declared.intersect.IntersectOutput.TheVariants.{IfHit, IfNoHit}
use Rattle.iv_pair.specs.declared.pair_rows.PairOutput.{PairOutput}
use Rattle.iv_pair.specs.declared.pair_rows.PairOutput.TheVariants.{Intersect, Subtract}

-- each record has a base
abbrev pub HaveBases : List RecordValue → Type 0
HaveBases records = All (λ r. r.start < r.stop) records

-- the same positions of each sequence are covered
abbrev pub CoverAlike : List RecordValue → List RecordValue → Type 0
CoverAlike second other = (seq p : ℕ) → is_covered second seq p ≡ is_covered other seq p

-- each record with a base has the same rows beside either list
abbrev pub GiveRowsAlike : PairOutput → List RecordValue → List RecordValue → Type 0
GiveRowsAlike output second other = (g : Sequences) (a : RecordValue) → a.start < a.stop → pair_rows output g a second ≡ pair_rows output g a other

-- a record has the same rows beside two second lists that cover the same positions
abbrev pub DependsOnCoverAlone : PairOutput → Type 0
DependsOnCoverAlone output = (second other : List RecordValue) → HaveBases second → HaveBases other → CoverAlike second other → GiveRowsAlike output second other

-- an intersect that only asks whether there is a hit, and each subtract
abbrev pub needs_cover_alone : PairOutput → Bool
needs_cover_alone (Intersect IfHit) = true
needs_cover_alone (Intersect IfNoHit) = true
needs_cover_alone (Intersect other) = false
needs_cover_alone (Subtract whole) = true
