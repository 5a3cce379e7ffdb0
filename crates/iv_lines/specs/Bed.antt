-- BED files.
use Rattle.std.specs.Prelude.{ℕ, List}
use Rattle.iv_lines.specs.RecordValue.{RecordValue}

-- a BED file: its width, and its records in the order of their lines
pub record Bed : Type 0 where
  pub width : ℕ
  pub records : List RecordValue
