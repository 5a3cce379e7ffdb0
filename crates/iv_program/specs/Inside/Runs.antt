-- What is known of the files of a plan, what their texts mean, and what a run of it does.
use Rattle.std.specs.Prelude.{◌≡◌, ◌⊎◌, ℕ, Bool, true, false, List, [], Result, Ok, Err, MatchResult, IfOk}
use Rattle.iv_bytes.specs.Sinks.{SinkState, Takes, FailsIn, waiting}
use Rattle.iv_places.specs.declared.places.HeldColumns.{HeldColumns}
use Rattle.iv_fasta.specs.FastaReading.{Wanted}
use Rattle.iv_session.specs.Streams.{Streams}
use Rattle.iv_session.specs.declared.script.RunFault.{RunFault}
use Rattle.iv_session.specs.declared.script.Summary.{Summary}
use Rattle.iv_args.specs.Arguments.{RunPlan, is_session}
use Rattle.iv_args.specs.declared.plan.Slot.{Slot}
use Rattle.iv_args.specs.declared.subcommand.Subcommand.TheVariants as kind
use Rattle.iv_run.specs.Shots.{Shows, shown}
use Rattle.iv_run.specs.Loading.{Parsed, parsed}
use Rattle.iv_run.specs.Columns.{AreEnough}
use Rattle.iv_run.specs.RunFiles.{AreAskedFor, AreWanted, Reports}
use Rattle.iv_run.specs.declared.exit_reason.CliFault.{CliFault}
use Rattle.iv_run.specs.declared.exit_reason.FileFault.{FileFault}
use Rattle.iv_run.specs.ExitReasons.{ending_after, ending_of, ending_of_file, is_through, line_of}
use Rattle.iv_run.specs.declared.exit_reason.ExitReason.{ExitReason}
use Rattle.iv_run.specs.declared.exit_reason.ExitReason.TheVariants as exit_reason
use Rattle.iv_program.specs.Files.{after_reading}
use Rattle.iv_program.specs.Inside.Files.{StopsAt, names_of}
use Rattle.iv_program.specs.Runs.{World, DoesWith, HasRead, HasNotRead}
use Rattle.iv_program.specs.Texts.{Texts, AreTexts}

-- the files of a plan, once they are read, are those of these texts, with only the columns of BED files that are held, and with the bases
-- of the wanted sequences; or this is the fault of the first damaged one
abbrev pub HasTexts : HeldColumns → Wanted → RunPlan → Texts → Result Parsed CliFault → Type 0
HasTexts which wanted plan texts files = Reports which wanted files (parsed plan.width texts.sizes texts.first texts.other texts.bases plan.limit)

-- so it is, and the columns and the bases are enough for the rows of the plan
pub record HasEnough (plan : RunPlan) (texts : Texts) (files : Result Parsed CliFault) : Type 0 where
  pub which : HeldColumns
  pub wanted : Wanted
  pub has : HasTexts which wanted plan texts files
  pub columns : AreEnough which plan.view
  pub bases : IfOk files (λ f. AreWanted wanted f.first.records)

-- so it is, with these columns, and with the bases that are asked for
pub record HasFiles (which : HeldColumns) (for_rows : Bool) (plan : RunPlan) (texts : Texts) (files : Result Parsed CliFault) : Type 0 where
  pub wanted : Wanted
  pub has : HasTexts which wanted plan texts files
  pub asked : IfOk files (λ f. AreAskedFor for_rows f.first wanted)

-- the view of a plan was printed for its texts, or its first fault is reported
abbrev pub PrintsView : RunPlan → Texts → SinkState → SinkState → ExitReason → Type 0
PrintsView plan texts old new ended =
    (done : Result (Unit {0}) CliFault)
    × Shows old new done (shown plan texts.sizes texts.first texts.other texts.bases plan.limit)
    × MatchResult done (λ _. ended ≡ exit_reason.Done) (λ fault. ended ≡ ending_of fault)

-- the script of a plan was run, or the fault of the first damaged file is reported, or out of memory
abbrev pub RunsScript : RunPlan → Texts → Streams → Streams → ExitReason → ℕ → Type 0
RunsScript plan texts before after ended line = DoesWith kind.Session plan texts before after ended line

-- the line at which a script stopped; 0 if it was run to its end
abbrev pub stopped_at : Result Summary RunFault → ℕ
stopped_at (Ok summary) = 0
stopped_at (Err stopped) = stopped.line

-- what is done with the texts of a plan: its script is run, or its view is printed
abbrev pub DoesOne : Bool → RunPlan → Texts → Streams → Streams → ExitReason → ℕ → Type 0
DoesOne true plan texts before after ended line = RunsScript plan texts before after ended line
DoesOne false plan texts before after ended line =
    PrintsView plan texts before.output after.output ended × (after ≡ record before { output = after.output }) × (line ≡ 0)

-- all files of a plan were read, and this was done with their texts
pub record ReadsAll (plan : RunPlan) (before after : World) (ended : ExitReason) (line : ℕ) : Type 0 where
  pub texts : Texts
  pub are : AreTexts before.files plan texts
  pub files : after.files ≡ after_reading (names_of plan) before.files
  pub does : DoesOne (is_session plan.run) plan texts before.streams after.streams ended line

-- a file of a plan was not read to its end, and nothing was read or written
pub record StopsPlan (plan : RunPlan) (before after : World) (ended : ExitReason) (line : ℕ) : Type 0 where
  pub slot : Slot
  pub fault : FileFault
  pub stops : StopsAt plan before.files after.files slot fault
  pub same : after.streams ≡ before.streams
  pub ended_is : ended ≡ ending_of_file slot fault
  pub no_line : line ≡ 0

-- the end of a run, by whether its output was flushed
abbrev pub Flushes : Bool → SinkState → SinkState → Type 0
Flushes true old new = Takes old new [] × (waiting new ≡ [])
Flushes false old new = FailsIn old new []

pub record EndsRun (ended : ExitReason) (name : List ℕ) (out0 out1 said0 said1 : SinkState) (reported : ExitReason) : Type 0 where
  pub flushed : Bool
  pub flush : Flushes flushed out0 out1
  pub reported_is : reported ≡ ending_after flushed ended
  pub told : Takes said0 said1 (line_of name reported) ⊎ FailsIn said0 said1 (line_of name reported)
  pub quiet : is_through reported ≡ true → said1 ≡ said0

-- a run of a plan ended so, at this line of its script if it ended early at one
abbrev pub RunsPlan : RunPlan → World → World → ExitReason → ℕ → Type 0
RunsPlan plan before after ended line = HasRead plan before after ended line ⊎ HasNotRead plan before after ended line
