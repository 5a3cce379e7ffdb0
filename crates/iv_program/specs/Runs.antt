-- What a run of a plan does once its files are read.
use Rattle.std.specs.Prelude.{◌≡◌, ℕ, ◌<◌, ◌⊎◌, ◌++◌, ◌==◌, if◌then◌else◌, List, Bool, true, false, Some, IfSome, Result, Ok, Err, MatchResult, length}
use Rattle.std.specs.List.{All}
use Rattle.std.specs.Option.{option_to_list}
use Rattle.iv_workspace.specs.States.{State}
use Rattle.iv_session.specs.Endings.{Ran}
use Rattle.iv_session.specs.Streams.{Streams}
use Rattle.iv_session.specs.declared.script.RunFault.{RunFault}
use Rattle.iv_session.specs.declared.script.Summary.{Summary}
use Rattle.iv_args.specs.Arguments.{RunPlan, file_of}
use Rattle.iv_args.specs.declared.subcommand.Subcommand.{Subcommand}
use Rattle.iv_args.specs.declared.subcommand.Subcommand.TheVariants as kind
use Rattle.iv_args.specs.declared.plan.Slot.{Slot}
use Rattle.iv_args.specs.declared.plan.Slot.TheVariants.{Bases}
use Rattle.iv_cli.specs.Loading.{loaded}
use Rattle.iv_run.specs.Shots.{Shows, shown}
use Rattle.iv_run.specs.declared.exit_reason.CliFault.{CliFault}
use Rattle.iv_run.specs.declared.exit_reason.CliFault.TheVariants.{Memory}
use Rattle.iv_run.specs.ExitReasons.{ending_of}
use Rattle.iv_cli.specs.ScriptEndings.{ending_of_cause}
use Rattle.iv_run.specs.declared.exit_reason.ExitReason.{ExitReason}
use Rattle.iv_run.specs.declared.exit_reason.ExitReason.TheVariants as exit_reason
use Rattle.iv_program.specs.Files.{FilesState, IsText, after_one, after_reading}
use Rattle.iv_program.specs.Limits.{most_file_bytes, most_line_bytes}
use Rattle.iv_program.specs.Texts.{Texts, IsTextIfNamed, names_before}

-- all that a run uses: its files, its input, its output and its messages
pub record World : Type 0 where
  pub files : FilesState
  pub streams : Streams

-- a script of at most so many lines was run over a session: to its end, or it stopped at this line
pub record RunsOver (lines : ℕ) (session : State) (before after : Streams) (ended : ExitReason) (line : ℕ) : Type 0 where
  pub new : State
  pub run : Result Summary RunFault
  pub ran : Ran session new before after lines most_line_bytes run
  pub ends : MatchResult run (λ summary. (ended ≡ (if summary.refused == 0 then exit_reason.Done else exit_reason.Refused)) × (line ≡ 0))
      (λ stopped. (ended ≡ ending_of_cause stopped.cause) × (line ≡ stopped.line))

-- what is done with the texts of a plan. For a session, the script is run over the state that they begin; or nothing is done, for the
-- fault of the first damaged file or for out of memory. For a subcommand, its view is printed, or its first fault is reported
abbrev pub DoesWith : Subcommand → RunPlan → Texts → Streams → Streams → ExitReason → ℕ → Type 0
DoesWith kind.Session plan texts before after ended line =
    let said = loaded plan.width texts.sizes texts.first texts.other texts.bases plan.limit in
    ((session : State) × (said ≡ Ok session) × RunsOver plan.limit session before after ended line)
    ⊎ ((fault : CliFault) × ((fault ≡ Memory) ⊎ (said ≡ Err fault)) × (after ≡ before) × (ended ≡ ending_of fault) × (line ≡ 0))
DoesWith run plan texts before after ended line =
    ((done : Result (Unit {0}) CliFault)
    × Shows before.output after.output done (shown plan texts.sizes texts.first texts.other texts.bases plan.limit)
    × MatchResult done (λ _. ended ≡ exit_reason.Done) (λ fault. ended ≡ ending_of fault))
    × (after ≡ record before { output = after.output }) × (line ≡ 0)

-- all files of a plan were read, one after another and each once, no other was opened, and this was done with their texts
pub record HasRead (plan : RunPlan) (before after : World) (ended : ExitReason) (line : ℕ) : Type 0 where
  pub texts : Texts
  pub sizes : IsText before.files plan.sizes texts.sizes
  pub first : IsText before.files plan.first texts.first
  pub other : IsTextIfNamed before.files plan.other texts.other
  pub bases : IsTextIfNamed before.files plan.bases texts.bases
  pub files : after.files ≡ after_reading (names_before plan Bases ++ option_to_list plan.bases) before.files
  pub does : DoesWith plan.run plan texts before.streams after.streams ended line

-- the files of a plan before the one of this slot were read, in the order of their slots, and none of them failed; then the one of this
-- slot was opened, and not read to its end: it failed, or it has too many bytes, or an allocation failed. No other file was opened, and
-- nothing was read or written
pub record HasNotRead (plan : RunPlan) (before after : World) (ended : ExitReason) (line : ℕ) : Type 0 where
  pub slot : Slot
  pub name : List ℕ
  pub named : file_of plan slot ≡ Some name
  pub earlier : All (λ read. (text : List ℕ) × IsText before.files read text) (names_before plan slot)
  pub failed : Bool
  pub files : after.files ≡ after_one failed name (after_reading (names_before plan slot) before.files)
  pub why : ((failed ≡ true) × (ended ≡ exit_reason.Unreadable slot)) ⊎ ((failed ≡ false) × (ended ≡ exit_reason.Memory))
      ⊎ ((failed ≡ false) × IfSome (before.files.contents name) (λ known. most_file_bytes < length known) × (ended ≡ exit_reason.TooLong slot))
  pub nothing : (after.streams ≡ before.streams) × (line ≡ 0)
