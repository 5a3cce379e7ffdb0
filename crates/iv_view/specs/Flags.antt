-- The views whose options are flags: their arguments.
use Rattle.std.specs.Prelude.{ℕ, Bool, true, false, not, nat_le, if◌then◌else◌, List, [], ◌∷◌, filter, count_by, Option, None, Some, codes}
use Rattle.std.specs.List.{list_any}
use Rattle.std.specs.Map.{lookup}
use Rattle.std.specs.Option.{option_map}
use Rattle.std.specs.Str.{bytes_eq}
use Rattle.iv_depth.specs.declared.depth_rows.DepthOutput.{DepthOutput}
use Rattle.iv_depth.specs.declared.depth_rows.DepthOutput.TheVariants as depth
use Rattle.iv_fasta.specs.declared.rows.FastaOutput.{FastaOutput}
use Rattle.iv_pair.specs.declared.intersect.IntersectOutput.{IntersectOutput}
use Rattle.iv_pair.specs.declared.intersect.IntersectOutput.TheVariants as output

-- whether arguments are this flag alone, or nothing
abbrev pub only_flag : List ℕ → List (List ℕ) → Option Bool
only_flag flag [] = Some false
only_flag flag (argument ∷ []) = if bytes_eq argument flag then Some true else None
only_flag flag (argument ∷ next ∷ arguments) = None

-- what arguments mean: the flag is among them once at most, and with it or without it the others mean the rest
abbrev pub beside_flag : {R : Type 0} → List ℕ → (Bool → List (List ℕ) → Option R) → List (List ℕ) → Option R
beside_flag flag said arguments =
    if nat_le (count_by (λ argument. bytes_eq argument flag) arguments) 1
    then said (list_any (λ argument. bytes_eq argument flag) arguments) (filter (λ argument. not (bytes_eq argument flag)) arguments)
    else None

-- the rows of `genomecov` that arguments ask for: they are one option
abbrev pub genomecov_rows : List (List ℕ) → Option DepthOutput
genomecov_rows (option ∷ []) = lookup (bytes_eq option) ((codes "-bg", depth.Covered) ∷ (codes "-bga", depth.All) ∷ (codes "-d", depth.EachPosition) ∷ [])
genomecov_rows arguments = None

-- the rows of `intersect` that arguments ask for, beside `-wa` or without it: they are one option at most
abbrev pub intersect_said : Bool → List (List ℕ) → Option IntersectOutput
intersect_said whole [] = Some (if whole then output.Whole else output.Shared)
intersect_said whole (option ∷ []) =
    lookup (bytes_eq option)
    ((codes "-wb", if whole then output.WholeAndHit else output.SharedAndHit) ∷ (codes "-u", output.IfHit) ∷ (codes "-v", output.IfNoHit) ∷ (codes "-c", output.Count) ∷ [])
intersect_said whole arguments = None

-- the rows of `getfasta` that arguments ask for, beside `-s` or without it: they are `-tab`, or none
abbrev pub fasta_said : Bool → List (List ℕ) → Option FastaOutput
fasta_said stranded arguments = option_map (λ tab. record { stranded = stranded; tab = tab }) (only_flag (codes "-tab") arguments)
