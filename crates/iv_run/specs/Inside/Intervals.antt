-- Which views need nothing of a record except its interval.
use Rattle.std.specs.Prelude.{◌≡◌, List, None, map}
use Rattle.iv_lines.specs.Genome.{Sequences}
use Rattle.iv_lines.specs.RecordValue.{RecordValue}
use Rattle.iv_lines.specs.Intervals.{bare}
use Rattle.iv_view.specs.Views.{kept_text}
use Rattle.iv_view.specs.declared.view.KeptView.{KeptView}

-- on each genome and for each list of records, the text stays as it is if only the intervals of the records are held
abbrev pub NeedsIntervalsAlone : KeptView → Type 0
NeedsIntervalsAlone view = (g : Sequences) (records : List RecordValue) → kept_text view g (map bare records) ≡ kept_text view g records
