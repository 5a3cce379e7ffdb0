-- What a record holds beside its interval: the rest of its line, which is all that follows the third TAB.
use Rattle.std.specs.Prelude.{◌≡◌, ◌<◌, ◌≤◌, ◌++◌, ℕ, List, [], codes}
use Rattle.iv_lines.specs.Lines.{HasNoFeed}
use Rattle.iv_lines.specs.RecordText.{joined_record, rest_text}
use Rattle.iv_lines.specs.RecordValue.{RecordValue}
use Rattle.iv_lines.specs.Widths.{IsWidth}
use Rattle.iv_lines.specs.declared.interval.Interval.{Interval}

-- the record of an interval and a rest
abbrev pub record_with : Interval → List ℕ → ℕ → RecordValue
record_with i rest width = joined_record i.seq i.start i.stop rest width

-- the interval has a base, and the width is one of a record; at width 3 the rest is empty, and beyond it is all that the record prints
-- after the third column; no line feed is in it
pub record IsWhole (i : Interval) (rest : List ℕ) (width : ℕ) : Type 0 where
  pub some : i.start < i.stop
  pub known : IsWidth width
  pub none : width < 4 → rest ≡ []
  pub plain : HasNoFeed rest
  pub whole : 4 ≤ width → codes "\t" ++ rest ≡ rest_text (record_with i rest width)
