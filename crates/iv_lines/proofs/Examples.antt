-- Rows worked by hand.
use Rattle.std.proofs.Common.{◌≡◌, ℕ, List, [], ◌∷◌, ◌++◌, Ok, Err, Some, None, refl}
use Rattle.std.specs.Prelude.{codes}
use Rattle.iv_lines.specs.Lines.{lines}
use Rattle.iv_lines.specs.Number.{number}
use Rattle.iv_lines.specs.Read.{read}
use Rattle.iv_lines.specs.GenomeFile.{after_line}
use Rattle.iv_lines.specs.Inside.GenomeFile.{after_lines}
use Rattle.iv_lines.specs.declared.fault.Fault.TheVariants as fault
use Rattle.iv_lines.specs.declared.fault.LoadCause.TheVariants as cause

abbrev g : List (List ℕ × ℕ)
g = (codes "chr1", 100) ∷ (codes "chr2", 50) ∷ (codes "chr3", 0) ∷ []

abbrev tab : List ℕ
tab = 9 ∷ []

-- a CR before an LF goes, another stays; the last line needs no LF
pub lines-example : lines (97 ∷ 13 ∷ 10 ∷ 13 ∷ 13 ∷ 10 ∷ 10 ∷ 98 ∷ 13 ∷ []) ≡ (97 ∷ []) ∷ (13 ∷ []) ∷ [] ∷ (98 ∷ 13 ∷ []) ∷ []
lines-example = refl

pub number-example : number (codes "0010") ≡ Some 10
number-example = refl

pub read-unknown : read g 6 (codes "chr9" ++ tab ++ codes "x" ++ tab ++ codes "y" ++ tab ++ codes "n" ++ tab ++ codes "0" ++ tab ++ codes "+") ≡ Err fault.UnknownSeq
read-unknown = refl

pub read-record : read g 3 (codes "chr2" ++ tab ++ codes "0010" ++ tab ++ codes "20") ≡ Ok (record { seq = 1; start = 10; stop = 20; name = []; score = []; strand = None; width = 3 })
read-record = refl

pub file-repeated : after_lines 1 [] (lines (codes "c" ++ tab ++ codes "1" ++ 10 ∷ codes "c" ++ tab ++ codes "2")) ≡ Err (record { line = 2; cause = cause.Repeated })
unfolding after_line
file-repeated = refl
