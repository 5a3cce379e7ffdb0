-- Files that are not read to their end.
use Rattle.std.specs.Prelude.{◌≡◌, ◌<◌, ◌⊎◌, ◌++◌, ℕ, List, Bool, true, false, Option, IfSome, Some, length}
use Rattle.std.specs.List.{All}
use Rattle.std.specs.Option.{option_to_list}
use Rattle.iv_args.specs.Arguments.{RunPlan, file_of}
use Rattle.iv_args.specs.declared.plan.Slot.{Slot}
use Rattle.iv_args.specs.declared.plan.Slot.TheVariants.{Bases}
use Rattle.iv_run.specs.declared.exit_reason.FileFault.{FileFault}
use Rattle.iv_run.specs.declared.exit_reason.FileFault.TheVariants.{Input, TooLong, Memory}
use Rattle.iv_run.specs.declared.exit_reason.ExitReason.{ExitReason}
use Rattle.iv_run.specs.declared.exit_reason.ExitReason.TheVariants as exit_reason
use Rattle.iv_program.specs.Files.{FilesState, IsText, after_one, after_reading}
use Rattle.iv_program.specs.Limits.{most_file_bytes}
use Rattle.iv_program.specs.Texts.{IsTextIfNamed, names_before}

-- why the file of this name was not read to its end, and the files afterwards: just this one was opened and closed, and it failed; or it
-- has too many bytes; or an allocation failed
abbrev pub StopsFile : FilesState → List ℕ → FileFault → FilesState → Type 0
StopsFile old name Input new = new ≡ after_one true name old
StopsFile old name TooLong new = IfSome (old.contents name) (λ known. most_file_bytes < length known) × (new ≡ after_one false name old)
StopsFile old name Memory new = new ≡ after_one false name old

-- the file of this name has a text that is not too long
abbrev pub HasText : FilesState → List ℕ → Type 0
HasText files name = (text : List ℕ) × IsText files name text

-- the names of all its files, in the order in which they are read
abbrev pub names_of : RunPlan → List (List ℕ)
names_of plan = names_before plan Bases ++ option_to_list plan.bases

-- the file of this name, if there is one, was read to its end and has this text
pub record ReadsNamed (old : FilesState) (name text : Option (List ℕ)) (new : FilesState) : Type 0 where
  pub is_text : IsTextIfNamed old name text
  pub after : new ≡ after_reading (option_to_list name) old

-- the files of these names were read, one after another
pub record AreRead (names : List (List ℕ)) (old new : FilesState) : Type 0 where
  pub have : All (HasText old) names
  pub after : new ≡ after_reading names old

-- the files of a plan before the one of this slot were read, in the order of their slots, and none of them failed; then the one of this
-- slot was opened, and not read to its end; no other file was opened
pub record StopsAt (plan : RunPlan) (old new : FilesState) (slot : Slot) (fault : FileFault) : Type 0 where
  pub name : List ℕ
  pub named : file_of plan slot ≡ Some name
  pub before : All (HasText old) (names_before plan slot)
  pub stops : StopsFile (after_reading (names_before plan slot) old) name fault new

-- whether the file of this name, which is in this slot, failed, and how the run ends that it stops
abbrev pub IsWhy : FilesState → List ℕ → Slot → Bool → ExitReason → Type 0
IsWhy files name slot failed ended =
    ((failed ≡ true) × (ended ≡ exit_reason.Unreadable slot)) ⊎ ((failed ≡ false) × (ended ≡ exit_reason.Memory))
    ⊎ ((failed ≡ false) × IfSome (files.contents name) (λ known. most_file_bytes < length known) × (ended ≡ exit_reason.TooLong slot))
