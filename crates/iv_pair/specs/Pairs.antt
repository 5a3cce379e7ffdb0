-- Rows beside a second list.
use Rattle.std.specs.Prelude.{List}
use Rattle.iv_lines.specs.RecordValue.{RecordValue}
use Rattle.iv_pair.specs.declared.pair_rows.PairOutput.{PairOutput}

-- which rows are put, and the records of the second list
pub record Beside : Type 0 where
  pub output : PairOutput
  pub second : List RecordValue
