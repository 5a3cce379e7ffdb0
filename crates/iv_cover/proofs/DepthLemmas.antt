-- How many records cover a position, record by record.
use Rattle.std.proofs.Common.{◌≡◌, ℕ, ◌+◌, cond, List, ◌∷◌}
use Rattle.std.proofs.lemmas.List.Sums.{sum_by-cons}
use Rattle.iv_lines.specs.RecordValue.{RecordValue}
use Rattle.iv_lines.specs.CoveredPositions.{covers}
use Rattle.iv_cover.specs.Depth.{depth}

pub depth-cons : (r : RecordValue) (records : List RecordValue) (rank p : ℕ) → depth (r ∷ records) rank p ≡ cond (covers rank p r) 1 0 + depth records rank p
depth-cons r records rank p = sum_by-cons (λ x. cond (covers rank p x) 1 0) r records
