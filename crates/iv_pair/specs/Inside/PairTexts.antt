-- Rows that are put of some records and then of others.
use Rattle.std.specs.Prelude.{◌≡◌, ◌++◌, List, Result, map}
use Rattle.iv_bytes.specs.Sinks.{Puts, SinkState}
use Rattle.iv_lines.specs.Genome.{Sequences}
use Rattle.iv_lines.specs.Intervals.{bare}
use Rattle.iv_lines.specs.RecordValue.{RecordValue}
use Rattle.iv_pair.specs.CoverAlone.{GiveRowsAlike}
use Rattle.iv_pair.specs.PairRows.{pair_text}
use Rattle.iv_pair.specs.declared.pair_rows.PairOutput.{PairOutput}

-- the rows of some records from the front were put, and the others are left
pub record PutsSome {T E : Type 0} (output : PairOutput) (g : Sequences) (second old new : List RecordValue) (before after : SinkState) (result : Result T E) : Type 0 where
  pub taken : List RecordValue
  pub all_are : old ≡ taken ++ new
  pub put : Puts before after result (pair_text output g taken second)

-- a record has the same rows beside the intervals of a second list alone
abbrev pub NeedsIntervalsAlone : PairOutput → Type 0
NeedsIntervalsAlone output = (second : List RecordValue) → GiveRowsAlike output (map bare second) second
