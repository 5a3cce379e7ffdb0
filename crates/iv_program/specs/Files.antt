-- Files that are opened by their names.
use Rattle.std.specs.Prelude.{◌≡◌, ℕ, ◌≤◌, ◌||◌, List, [], ◌∷◌, ◌++◌, Bool, false, Option, IfSome, length}
use Rattle.std.specs.Option.{option_map}
use Rattle.iv_bytes.specs.Sources.{SourceState}
use Rattle.iv_program.specs.Limits.{most_file_bytes}

-- what happens to files: one of this name is opened; one is closed, which failed or not
pub data FileEvent : Type 0 where
  Opened : List ℕ → FileEvent
  Closed : Bool → FileEvent

-- the bytes of the file of each name, if those are known; what happened to files so far, in this order, if that is known; and whether a
-- file could not be opened or read
pub record FilesState : Type 0 where
  pub contents : List ℕ → Option (List ℕ)
  pub events : Option (List FileEvent)
  pub failed : Bool

-- the file of a name that was just opened
abbrev pub opened : FilesState → List ℕ → SourceState
opened files name = record { remaining = files.contents name; failed = false; ends = 0 }

-- the files once the one of this name is opened
abbrev pub after_opening : List ℕ → FilesState → FilesState
after_opening name files = record files { events = option_map (λ events. events ++ Opened name ∷ []) files.events }

-- the files once one of them is closed, which may have failed
abbrev pub after_closing : Bool → FilesState → FilesState
after_closing failed files = record files { events = option_map (λ events. events ++ Closed failed ∷ []) files.events; failed = failed || files.failed }

-- the files once the one of this name was opened, and closed before another was; one that can't be opened counts as closed and failed
abbrev pub after_one : Bool → List ℕ → FilesState → FilesState
after_one failed name files = after_closing failed (after_opening name files)

-- the files once those of these names were read, each closed before the next was opened, and none of them failed
abbrev pub after_reading : List (List ℕ) → FilesState → FilesState
after_reading [] files = files
after_reading (name ∷ names) files = after_reading names (after_one false name files)

-- what happens to files when one of this name is read: it is opened, and closed
abbrev pub once : List ℕ → List FileEvent
once name = Opened name ∷ Closed false ∷ []

-- the file of this name has this text, and it is not too long
abbrev pub IsText : FilesState → List ℕ → List ℕ → Type 0
IsText files name text = IfSome (files.contents name) (λ known. known ≡ text) × (length text ≤ most_file_bytes)
