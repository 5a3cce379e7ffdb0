-- A run that has done all that its arguments ask for, and one that nothing hindered.
use Rattle.std.specs.Prelude.{◌≡◌, ◌≤◌, ℕ, List, [], Bool, true, false, Option, None, Some, Result, Ok, Err, length}
use Rattle.iv_bytes.specs.Sinks.{Takes}
use Rattle.iv_workspace.specs.States.{State}
use Rattle.iv_session.specs.Scripts.{Done}
use Rattle.iv_session.specs.Streams.{Streams}
use Rattle.iv_args.specs.Arguments.{RunPlan, is_session}
use Rattle.iv_cli.specs.Loading.{loaded}
use Rattle.iv_run.specs.Shots.{shown}
use Rattle.iv_run.specs.declared.exit_reason.CliFault.{CliFault}
use Rattle.iv_run.specs.ExitReasons.{ending_of, line_of, name_meant, status_of}
use Rattle.iv_program.specs.Files.{FilesState}
use Rattle.iv_program.specs.Limits.{most_file_bytes, most_line_bytes}
use Rattle.iv_program.specs.Runs.{World}
use Rattle.iv_program.specs.Texts.{Texts, AreTexts}

-- the whole text of the view of a plan was printed
abbrev pub PrintsAll : RunPlan → Texts → Streams → Streams → Type 0
PrintsAll plan texts before after =
    (text : List ℕ) × (shown plan texts.sizes texts.first texts.other texts.bases plan.limit ≡ Ok text) × Takes before.output after.output text

-- every line of the script was run, over the session that the texts begin, and none of them was refused
pub record RunsAll (plan : RunPlan) (texts : Texts) (before after : Streams) : Type 0 where
  pub old : State
  pub new : State
  pub begins : loaded plan.width texts.sizes texts.first texts.other texts.bases plan.limit ≡ Ok old
  pub reached : Streams
  pub count : ℕ
  pub runs : Done old new before reached plan.limit most_line_bytes count 0
  pub flushed : Takes reached.output after.output []

-- all that a plan asks for was done with these texts
abbrev pub DoesAllWith : Bool → RunPlan → Texts → Streams → Streams → Type 0
DoesAllWith true plan texts before after = RunsAll plan texts before after
DoesAllWith false plan texts before after = PrintsAll plan texts before after

-- all files of a plan were read, and all that it asks for was done with their texts
pub record DoesAll (plan : RunPlan) (before after : World) : Type 0 where
  pub texts : Texts
  pub are : AreTexts before.files plan texts
  pub does : DoesAllWith (is_session plan.run) plan texts before.streams after.streams

-- the file of a name has these bytes, which are not too many; there is none without a name
abbrev pub HasBytes : FilesState → Option (List ℕ) → Option (List ℕ) → Type 0
HasBytes files None bytes = bytes ≡ None
HasBytes files (Some name) bytes = (known : List ℕ) × (files.contents name ≡ Some known) × (length known ≤ most_file_bytes) × (bytes ≡ Some known)

-- the files that a plan names have these bytes
pub record Hold (files : FilesState) (plan : RunPlan) (texts : Texts) : Type 0 where
  pub sizes : HasBytes files (Some plan.sizes) (Some texts.sizes)
  pub first : HasBytes files (Some plan.first) (Some texts.first)
  pub other : HasBytes files plan.other texts.other
  pub bases : HasBytes files plan.bases texts.bases

-- no file failed, nor the output, nor the messages
pub record IsSound (after : World) : Type 0 where
  pub files : after.files.failed ≡ false
  pub output : after.streams.output.failed ≡ false
  pub messages : after.streams.messages.failed ≡ false

-- this is what a view is to print, and just that was printed; or its fault, and just the line of that was put among the messages
abbrev pub PrintsJust : RunPlan → Result (List ℕ) CliFault → Streams → Streams → ℕ → Type 0
PrintsJust plan (Ok text) before after status =
    Takes before.output after.output text × (after.messages ≡ before.messages) × (status ≡ 0)
PrintsJust plan (Err k) before after status =
    Takes before.output after.output []
    × Takes before.messages after.messages (line_of (name_meant plan (ending_of k)) (ending_of k)) × (status ≡ status_of (ending_of k))
