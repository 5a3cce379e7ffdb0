-- The parts of a line, as they are read in one pass from its front.
use Rattle.std.specs.Prelude.{◌≡◌, ◌<◌, ◌≤◌, All, ℕ, ◌+◌, ◌||◌, Bool, false, List, [], ◌∷◌, ◌++◌, Some, length}
use Rattle.iv_text.specs.BedFile.{is_skipped_line}
use Rattle.iv_lines.specs.Bytes.{tab}
use Rattle.iv_lines.specs.Inside.Fields.{HasNoTab, is_separator}
use Rattle.iv_lines.specs.Lines.{HasNoFeed}
use Rattle.iv_lines.specs.Number.{number}
use Rattle.iv_lines.specs.Genome.{Sequences, length_at}
use Rattle.iv_lines.specs.Named.{name_index}
use Rattle.iv_lines.specs.Read.{column, AreSoundColumns}
use Rattle.iv_lines.specs.Inside.Read.{is_line_byte}
use Rattle.iv_lines.specs.RecordValue.{strand_of}
use Rattle.iv_lines.specs.declared.interval.Interval.{Interval}

-- the name is that of a sequence of the genome, with its rank and its length; it holds no TAB and no LF, and as a line it would be no header
pub record IsNamed (g : Sequences) (name : List ℕ) (rank len : ℕ) : Type 0 where
  pub plain : HasNoTab name
  pub one_line : HasNoFeed name
  pub unread : is_skipped_line name ≡ false
  pub rank_is : name_index g name ≡ Some rank
  pub length_is : length_at g rank ≡ Some len

-- the text begins with the name of a sequence and a TAB, and the rest is after them
abbrev pub BeginsWithName : Sequences → List ℕ → List ℕ → ℕ → ℕ → List ℕ → Type 0
BeginsWithName g text name rank len rest = IsNamed g name rank len × (text ≡ name ++ tab ∷ rest)

-- the text begins with digits that mean n, and the rest is after them
abbrev pub BeginsWithNumber : List ℕ → ℕ → List ℕ → Type 0
BeginsWithNumber text n rest = (digits : List ℕ) × (text ≡ digits ++ rest) × (number digits ≡ Some n)

-- the text begins with the columns of an interval on the genome: a name, a start and a stop; the rest is after them
pub record BeginsWithInterval (g : Sequences) (text : List ℕ) (i : Interval) (rest : List ℕ) : Type 0 where
  pub name : List ℕ
  pub starts : List ℕ
  pub stops : List ℕ
  pub len : ℕ
  pub text_is : text ≡ name ++ tab ∷ (starts ++ tab ∷ (stops ++ rest))
  pub named : IsNamed g name i.seq len
  pub start_is : number starts ≡ Some i.start
  pub stop_is : number stops ≡ Some i.stop
  pub some : i.start < i.stop
  pub within : i.stop ≤ len

-- no cell goes on at this byte: a TAB, or one that no name and no score holds
abbrev pub ends_cell : ℕ → Bool
ends_cell b = is_line_byte b || is_separator tab b

-- a cell is a column without a byte that ends it
abbrev pub IsCell : List ℕ → Type 0
IsCell cell = All (λ b. ends_cell b ≡ false) cell

-- the text begins with a TAB and this cell, which is good, and the rest is after them
abbrev pub BeginsWithCell : (List ℕ → Type 0) → List ℕ → List ℕ → List ℕ → Type 0
BeginsWithCell Good text cell rest = (text ≡ tab ∷ (cell ++ rest)) × IsCell cell × Good cell

-- cells, each after its TAB
abbrev pub laid : List (List ℕ) → List ℕ
laid [] = []
laid (cell ∷ cells) = tab ∷ (cell ++ laid cells)

-- the text begins with the cells of a record of this width after its interval, each after its TAB, and the end is after them; the record
-- may have them
pub record BeginsWithCells (width : ℕ) (text end : List ℕ) : Type 0 where
  pub cells : List (List ℕ)
  pub text_is : text ≡ laid cells ++ end
  pub plain : All IsCell cells
  pub count : 3 + length cells ≡ width
  pub sound : AreSoundColumns width (column cells 0) (column cells 1) (strand_of (column cells 2))

-- so it does, and the rest is what is between the first TAB and the end, or empty at width 3
abbrev pub BeginsWithRest : ℕ → List ℕ → List ℕ → List ℕ → Type 0
BeginsWithRest width text rest end = (begins : BeginsWithCells width text end) × (width < 4 → rest ≡ []) × (4 ≤ width → tab ∷ rest ≡ laid begins.cells)
