-- Rows of `records` that can be read again from a BED file.
use Rattle.std.specs.Prelude.{◌≡◌, ℕ, false, List, Ok}
use Rattle.iv_text.specs.BedFile.{is_skipped_line}
use Rattle.iv_lines.specs.Genome.{Sequences, sequence_name}
use Rattle.iv_lines.specs.Lines.{HasNoFeed}
use Rattle.iv_lines.specs.Read.{read}
use Rattle.iv_lines.specs.RecordText.{record_text}
use Rattle.iv_lines.specs.RecordValue.{RecordValue}

-- some line of this width means the record
abbrev pub IsOfLine : Sequences → ℕ → RecordValue → Type 0
IsOfLine g width r = (line : List ℕ) × (read g width line ≡ Ok r)

-- the record is that of some line; the name of its sequence holds no LF, and its text is no header
pub record IsBedRow (g : Sequences) (width : ℕ) (r : RecordValue) : Type 0 where
  pub of_line : IsOfLine g width r
  pub one_line : HasNoFeed (sequence_name g r.seq)
  pub unread : is_skipped_line (record_text g r) ≡ false
