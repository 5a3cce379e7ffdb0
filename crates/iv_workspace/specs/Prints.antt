-- What prints of views leave.
use Rattle.std.specs.Prelude.{◌≡◌, ◌<◌, ◌+◌, ℕ, length, true, false, List, [], ◌∷◌, Option, None, Some, Result, Ok, Err, IsSome, MatchOption}
use Rattle.iv_bytes.specs.Sinks.{SinkState, Takes, FailsIn}
use Rattle.iv_lines.specs.Genome.{Sequences}
use Rattle.iv_lines.specs.RecordValue.{RecordValue}
use Rattle.iv_lines.specs.declared.fault.Fault.TheVariants as fault
use Rattle.iv_track.specs.Regions.{near}
use Rattle.iv_ledger.specs.Steps.{TakesUpTo}
use Rattle.iv_track.specs.declared.region.Region.{Region}
use Rattle.iv_view.specs.KeptStates.{state_key_of, PrintsWithin}
use Rattle.iv_view.specs.RegionText.{PrintsInWithin}
use Rattle.iv_view.specs.Views.{WritesWithin}
use Rattle.iv_view.specs.declared.view.View.{View}
use Rattle.iv_view.specs.declared.view.View.TheVariants as view
use Rattle.iv_workspace.specs.OpenViews.{Shown, Freshens, all_current, stale_count, with_current}
use Rattle.iv_workspace.specs.States.{State}
use Rattle.iv_workspace.specs.Views.{all_text, text_in, view_named}
use Rattle.iv_workspace.specs.declared.fault.PrintFault.{PrintFault}
use Rattle.iv_workspace.specs.declared.fault.PrintFault.TheVariants as printing

-- the session, except that some stale views may have become current
abbrev pub IsButCurrent : State → State → Type 0
IsButCurrent old new = (new ≡ record old { views = new.views }) × Freshens old.views new.views

-- what a print of the view of a name leaves: its text, or a prefix, and the view current;
-- or, if an allocation failed for a stale view of which something is kept, all as before and nothing written
abbrev pub PrintedView : Option Region → State → List ℕ → Shown → State → SinkState → SinkState → Result (Unit {0}) PrintFault → Type 0
PrintedView part old name v new out0 out1 (Ok done) =
    Takes out0 out1 (text_in part old v.view) × (new ≡ record old { views = with_current old.views name })
PrintedView part old name v new out0 out1 (Err printing.Write) =
    FailsIn out0 out1 (text_in part old v.view) × (new ≡ record old { views = with_current old.views name })
PrintedView part old name v new out0 out1 (Err (printing.Refused fault.NoMemory)) =
    (v.stale ≡ true) × IsSome (state_key_of v.view) × (out1 ≡ out0) × (new ≡ old)
PrintedView part old name v new out0 out1 (Err (printing.Refused other)) = ⊥

-- the same of a name that a view may have: if none has it, that is the fault, nothing is written, and all is as before
abbrev pub PrintedNamed : Option Region → State → List ℕ → State → SinkState → SinkState → Result (Unit {0}) PrintFault → Type 0
PrintedNamed part old name new out0 out1 result = MatchOption (view_named old.views name)
    ((result ≡ Err (printing.Refused fault.NoView)) × (out1 ≡ out0) × (new ≡ old))
    (λ v. PrintedView part old name v new out0 out1 result)

-- what a print of all views leaves: their texts, or a prefix, and all current;
-- or, if an allocation for a stale view failed, nothing written, and some views may have become current
abbrev pub PrintedAll : Option Region → State → State → SinkState → SinkState → Result (Unit {0}) PrintFault → Type 0
PrintedAll part old new out0 out1 (Ok done) =
    Takes out0 out1 (all_text part old) × (new ≡ record old { views = all_current old.views })
PrintedAll part old new out0 out1 (Err printing.Write) =
    FailsIn out0 out1 (all_text part old) × (new ≡ record old { views = all_current old.views })
PrintedAll part old new out0 out1 (Err (printing.Refused fault.NoMemory)) = (0 < stale_count old.views) × (out1 ≡ out0) × IsButCurrent old new
PrintedAll part old new out0 out1 (Err (printing.Refused other)) = ⊥

-- how many steps lie between two readings at most while a view is printed that is current, all of it or a region: as many as
-- `KeptView::print` and `print_in` take for one of which something is kept, and as many as those of `WrittenView` for another one
abbrev pub ViewPrintsWithin : Option Region → View → Sequences → List RecordValue → ℕ → ℕ → Type 0
ViewPrintsWithin None (view.Kept v) g records old new = PrintsWithin v g records old new
ViewPrintsWithin None (view.Written v) g records old new = WritesWithin v records old new
ViewPrintsWithin (Some at) (view.Kept v) g records old new = PrintsInWithin at v g records old new
ViewPrintsWithin (Some at) (view.Written v) g records old new = TakesUpTo old new (2 + length (near at records))

-- the same of the view that a name has: no step if no view has it; a stale view is built again first, and may take as many as it needs
abbrev pub NamedPrintsWithin : Option Region → Option Shown → Sequences → List RecordValue → ℕ → ℕ → Type 0
NamedPrintsWithin part None g records old new = new ≡ old
NamedPrintsWithin part (Some v) g records old new = v.stale ≡ false → ViewPrintsWithin part v.view g records old new

-- the same of all these views, printed one after another: what each takes is within its own bound, and nothing else takes a step
abbrev pub AllPrintWithin : Option Region → List (List ℕ × Shown) → Sequences → List RecordValue → ℕ → ℕ → Type 0
AllPrintWithin part [] g records old new = new ≡ old
AllPrintWithin part (v ∷ views) g records old new = (between : ℕ) × ViewPrintsWithin part v.1.view g records old between × AllPrintWithin part views g records between new
