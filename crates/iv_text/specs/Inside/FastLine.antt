-- A line of a record at the front of a text.
use Rattle.std.specs.Prelude.{◌≡◌, ◌<◌, ◌≤◌, ℕ, false, List, ◌∷◌, Ok, drop, length}
use Rattle.iv_text.specs.BedFile.{is_skipped_line}
use Rattle.iv_lines.specs.Genome.{Sequences}
use Rattle.iv_lines.specs.Lines.{lines}
use Rattle.iv_lines.specs.Read.{read, Fits}
use Rattle.iv_lines.specs.RecordValue.{RecordValue}

-- the first line of the text has this record of this width, and the next line begins so many bytes further on
pub record IsFastLine (g : Sequences) (width : ℕ) (text : List ℕ) (feature : RecordValue) (size : ℕ) : Type 0 where
  pub line : List ℕ
  pub lines_are : lines text ≡ line ∷ lines (drop size text)
  pub some : 0 < size
  pub within : size ≤ length text
  pub unread : is_skipped_line line ≡ false
  pub reads : read g width line ≡ Ok feature
  pub fits : Fits g width feature
