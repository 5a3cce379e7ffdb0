-- The bases of sequences that are in one list.
use Rattle.std.specs.Prelude.{◌≤◌, ℕ, List, Option, IfSome, map, slice_range}
use Rattle.std.specs.Option.{option_map}
use Rattle.iv_fasta.specs.Fasta.{Bases}
use Rattle.iv_fasta.specs.declared.held_sequences.BaseRange.{BaseRange}

-- the bases in a range
abbrev pub bases_at : List ℕ → BaseRange → List ℕ
bases_at bases range = slice_range bases range.start range.stop

-- the bases in each of these ranges
abbrev pub placed : List (Option BaseRange) → List ℕ → Bases
placed ranges bases = map (option_map (bases_at bases)) ranges

-- the range is among so many bases
pub record EndsWithin (total : ℕ) (range : BaseRange) : Type 0 where
  pub in_order : range.start ≤ range.stop
  pub in_bounds : range.stop ≤ total

-- if there is a range, it is among so many bases
abbrev pub IsPlacedWithin : ℕ → Option BaseRange → Type 0
IsPlacedWithin total range = IfSome range (EndsWithin total)
