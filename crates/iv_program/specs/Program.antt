-- What the program does.
use Rattle.std.specs.Prelude.{◌≡◌, ℕ, ◌⊎◌, if◌then◌else◌, List, [], true, Option, None, Some}
use Rattle.iv_bytes.specs.Sinks.{SinkState, Takes, FailsIn, waiting}
use Rattle.iv_bytes.specs.Sources.{SourceState}
use Rattle.iv_lines.specs.declared.fault.Fault.TheVariants as refused
use Rattle.iv_args.specs.Notices.{notice_of}
use Rattle.iv_args.specs.Texts.{notice_text}
use Rattle.iv_args.specs.Arguments.{RunPlan, IsPlan}
use Rattle.iv_args.specs.declared.subcommand.Notice.{Notice}
use Rattle.iv_run.specs.ExitReasons.{is_through, line_of, name_meant}
use Rattle.iv_run.specs.declared.exit_reason.ExitReason.{ExitReason}
use Rattle.iv_run.specs.declared.exit_reason.ExitReason.TheVariants as exit_reason
use Rattle.iv_program.specs.Files.{FilesState}
use Rattle.iv_program.specs.Runs.{World, HasRead, HasNotRead}
use Rattle.iv_program.specs.declared.program.Ended.{Ended}

-- all that a run uses: these files, this input, this output and these messages
abbrev pub world : FilesState → SourceState → SinkState → SinkState → World
world files input output messages = record { files = files; streams = record { input = input; output = output; messages = messages } }

-- what arguments ask for was done, and ended so, at this line of its script if it ended early at one. If they ask for a notice, its text was
-- put, or the output failed in it. Otherwise they are those of a plan, which was run, and the name is that of the file that the ending
-- speaks of; or nothing was done, as they are those of no plan, or memory ran out
abbrev pub Serves : Option Notice → List (List ℕ) → World → World → ExitReason → List ℕ → ℕ → Type 0
Serves (Some notice) arguments before after ended name line =
    (((ended ≡ exit_reason.Done) × Takes before.streams.output after.streams.output (notice_text notice))
    ⊎ ((ended ≡ exit_reason.Output) × FailsIn before.streams.output after.streams.output (notice_text notice)))
    × (after ≡ record before { streams = record before.streams { output = after.streams.output } }) × (line ≡ 0)
Serves None arguments before after ended name line =
    ((plan : RunPlan) × IsPlan arguments plan × (name ≡ name_meant plan ended) × (HasRead plan before after ended line ⊎ HasNotRead plan before after ended line))
    ⊎ (((ended ≡ exit_reason.Memory) ⊎ ((ended ≡ exit_reason.Words refused.Words) × ((plan : RunPlan) → ¬ IsPlan arguments plan))) × (after ≡ before) × (line ≡ 0))

-- the end of a run: the output hands on all that it held, so that nothing waits, or fails in it, which is its ending if all was carried out
-- before; and the messages get the line of its ending, or fail in it
pub record Finishes (ended : ExitReason) (name : List ℕ) (out0 out1 said0 said1 : SinkState) (reported : ExitReason) : Type 0 where
  pub flushed : (Takes out0 out1 [] × (waiting out1 ≡ []) × (reported ≡ ended)) ⊎ (FailsIn out0 out1 [] × (reported ≡ (if is_through ended then exit_reason.Output else ended)))
  pub told : Takes said0 said1 (line_of name reported) ⊎ FailsIn said0 said1 (line_of name reported)
  pub quiet : is_through reported ≡ true → said1 ≡ said0

-- the program was run with these arguments, and ended so
pub record Runs (arguments : List (List ℕ)) (before after : World) (answer : Ended) : Type 0 where
  pub reached : World
  pub ended : ExitReason
  pub name : List ℕ
  pub serves : Serves (notice_of arguments) arguments before reached ended name answer.line
  pub finishes : Finishes ended name reached.streams.output after.streams.output reached.streams.messages after.streams.messages answer.exit_reason
  pub files : after.files ≡ reached.files
  pub input : after.streams.input ≡ reached.streams.input
