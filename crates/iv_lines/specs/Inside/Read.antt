-- The bytes of a name or a score, and the columns of a line that a record of some width has.
use Rattle.std.specs.Prelude.{◌≡◌, ◌<◌, ◌≤◌, ◌++◌, ℕ, IsSome, ◌==◌, ◌||◌, Bool, List, [], codes, length}
use Rattle.iv_lines.specs.Bytes.{nul, line_feed, carriage_return}
use Rattle.iv_lines.specs.Read.{column}
use Rattle.iv_lines.specs.RecordText.{joined_record, rest_text}
use Rattle.iv_lines.specs.RecordValue.{strand_of}

-- no name and no score holds this byte
abbrev pub is_line_byte : ℕ → Bool
is_line_byte b = b == carriage_return || b == line_feed || b == nul

-- cs has as many columns as the width: the first three are these, and a record with this rest has the others, which are empty beyond the
-- width. If its strand is one, the rest is all that it prints after the third column; at width 3 it is empty
pub record AreCells (width : ℕ) (cs : List (List ℕ)) (seq start stop rest : List ℕ) : Type 0 where
  pub count : length cs ≡ width
  pub seq_is : column cs 0 ≡ seq
  pub start_is : column cs 1 ≡ start
  pub stop_is : column cs 2 ≡ stop
  pub name_is : column cs 3 ≡ (joined_record 0 0 0 rest width).name
  pub score_is : column cs 4 ≡ (joined_record 0 0 0 rest width).score
  pub strand_is : strand_of (column cs 5) ≡ (joined_record 0 0 0 rest width).strand
  pub none : width < 4 → rest ≡ []
  pub whole : (6 ≤ width → IsSome (joined_record 0 0 0 rest width).strand) → 4 ≤ width → codes "\t" ++ rest ≡ rest_text (joined_record 0 0 0 rest width)
