-- What records cover.
use Rattle.std.specs.Prelude.{ℕ, Bool, List}
use Rattle.std.specs.List.{list_any}
use Rattle.iv_lines.specs.RecordValue.{RecordValue}
use Rattle.iv_lines.specs.CoveredPositions.{covers}

-- whether some record covers position p, from 0, of the sequence of this rank
abbrev pub is_covered : List RecordValue → ℕ → ℕ → Bool
is_covered records sequence p = list_any (covers sequence p) records
