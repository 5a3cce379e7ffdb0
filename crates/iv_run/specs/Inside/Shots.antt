-- Parts of what a run of one subcommand prints.
use Rattle.std.specs.Prelude.{ℕ, List, [], None, Option, Result}
use Rattle.std.specs.Option.{is_some, option_map, option_transpose, unwrap_or}
use Rattle.iv_text.specs.BedFile.{Bed, bed_of}
use Rattle.iv_lines.specs.Genome.{Sequences}
use Rattle.iv_lines.specs.Ordered.{ordered}
use Rattle.iv_lines.specs.RecordValue.{RecordValue}
use Rattle.iv_lines.specs.declared.fault.Fault.{Fault}
use Rattle.iv_lines.specs.declared.fault.LoadFault.{LoadFault}
use Rattle.iv_fasta.specs.Fasta.{Bases, fasta_of}
use Rattle.iv_view.specs.Arguments.{read_arguments}
use Rattle.iv_view.specs.Views.{shown_text}
use Rattle.iv_view.specs.declared.view.View.{View}
use Rattle.iv_run.specs.Loading.{Parsed}

-- a BED file that may be left out, or its first fault
abbrev pub second_of : Sequences → ℕ → ℕ → Option (List ℕ) → Result (Option Bed) LoadFault
second_of g width limit text = option_transpose (option_map (bed_of g width limit) text)

-- a FASTA file that may be left out, or its first fault
abbrev pub bases_said : Sequences → Option (List ℕ) → Result (Option Bases) LoadFault
bases_said g text = option_transpose (option_map (fasta_of g) text)

-- the records of a second file in track order, none without one
abbrev pub ordered_other : Option Bed → List RecordValue
ordered_other second = unwrap_or (option_map (λ file. ordered file.records) second) []

-- the view that arguments ask for beside these files, at the width of the records
abbrev pub view_beside : Parsed → List (List ℕ) → Result View Fault
view_beside files arguments = read_arguments files.first.width (is_some files.second) (is_some files.bases) arguments

-- what the view prints for the files: its text for their records in track order
abbrev pub text_beside : Parsed → View → List ℕ
text_beside files view = shown_text view files.genome (ordered files.first.records) (ordered_other files.second) (unwrap_or files.bases [])
