-- Bytes of a FASTA file, and a header with the lines of bases after it.
use Rattle.std.specs.Prelude.{◌≡◌, ℕ, ◌++◌, ◌==◌, ◌||◌, nat_lt, Bool, true, false, List, [], ◌∷◌, None}
use Rattle.iv_lines.specs.Bytes.{tab, space}
use Rattle.std.specs.List.{list_any, concat}
use Rattle.iv_lines.specs.Named.{name_index}
use Rattle.iv_lines.specs.GenomeFile.{bad_name}
use Rattle.iv_lines.specs.Lines.{begins_with}
use Rattle.iv_fasta.specs.Fasta.{Found, header_name, header_sign}

-- a name ends before a space and before a TAB
abbrev pub is_blank : ℕ → Bool
is_blank b = b == space || b == tab

-- no base is this byte: it is not one of 33 to 126
abbrev pub is_no_base : ℕ → Bool
is_no_base b = nat_lt b 33 || nat_lt 126 b

-- the line is the header of one more sequence: its name is good and new
pub record IsNewHeader (found : Found) (line : List ℕ) : Type 0 where
  pub begins : begins_with header_sign line ≡ true
  pub good : bad_name (header_name line) ≡ false
  pub new : name_index found (header_name line) ≡ None

-- the line is empty or all bases, and no header
pub record IsBaseLine (line : List ℕ) : Type 0 where
  pub no_header : begins_with header_sign line ≡ false
  pub all_bases : list_any is_no_base line ≡ false

-- the sequences with one more: its header's line has this number, and its bases are those of all these lines
abbrev pub with_joined : ℕ → Found → List ℕ → List (List ℕ) → Found
with_joined n found header base_lines = found ++ (header_name header, record { line = n; bases = concat base_lines }) ∷ []
