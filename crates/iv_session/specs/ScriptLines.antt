-- What a line of a script may do.
use Rattle.std.specs.Prelude.{◌≡◌, ◌<◌, ◌⊎◌, ℕ, true, List, [], None, Some, Result, Ok, Err, IsSome}
use Rattle.std.specs.Map.{remove_entry}
use Rattle.std.specs.Str.{bytes_eq}
use Rattle.iv_lines.specs.Fields.{words}
use Rattle.iv_lines.specs.declared.fault.Fault.{Fault}
use Rattle.iv_workspace.specs.OpenViews.{Shown, all_current, stale_count, with_current}
use Rattle.iv_workspace.specs.Prints.{IsButCurrent}
use Rattle.iv_workspace.specs.States.{State}
use Rattle.iv_workspace.specs.Resizes.{resized}
use Rattle.iv_workspace.specs.Views.{view_named, Opens, RefusesOpen, all_text, text_in}
use Rattle.iv_session.specs.Requests.{asked}
use Rattle.iv_workspace.specs.Edits.{IsEdited, RefusesIn}
use Rattle.iv_session.specs.Written.{Written, refused_by}
use Rattle.iv_session.specs.declared.request.Request.{Request}
use Rattle.iv_session.specs.declared.script.RunCause.{RunCause}
use Rattle.iv_lines.specs.declared.fault.Fault.TheVariants as fault
use Rattle.iv_session.specs.declared.request.Request.TheVariants as request
use Rattle.iv_session.specs.declared.script.RunCause.TheVariants as cause

-- a request is done: it leads from this state to that one, and this is its text. After an edit some views may be
-- stale, but after one of the second file none becomes so; a view that is printed is current
abbrev pub Does : Request → State → State → List ℕ → Type 0
Does request.Nothing old new text = (new ≡ old) × (text ≡ [])
Does (request.Edit target e) old new text = IsEdited target e old new × (text ≡ [])
Does (request.Resize name n) old new text = (resized old name n ≡ Ok new) × (text ≡ [])
Does (request.Open name said) old new text = Opens old name (words said) new × (text ≡ [])
Does (request.Close name) old new text =
    IsSome (view_named old.views name) × (new ≡ record old { views = remove_entry (bytes_eq name) old.views }) × (text ≡ [])
Does (request.Print name part) old new text =
    (v : Shown) × (view_named old.views name ≡ Some v) × (new ≡ record old { views = with_current old.views name })
    × (text ≡ text_in part old v.view)
Does (request.PrintAll part) old new text = (new ≡ record old { views = all_current old.views }) × (text ≡ all_text part old)

-- why a request is refused: a print for out of memory only if a view to be printed is stale
abbrev pub Refuses : Request → State → Fault → Type 0
Refuses (request.Edit target e) s f = RefusesIn target e s f
Refuses (request.Resize name n) s f = resized s name n ≡ Err f
Refuses (request.Open name said) s f = RefusesOpen s name (words said) f
Refuses (request.Close name) s fault.NoView = view_named s.views name ≡ None
Refuses (request.Print name part) s fault.NoView = view_named s.views name ≡ None
Refuses (request.Print name part) s fault.NoMemory = (v : Shown) × (view_named s.views name ≡ Some v) × (v.stale ≡ true)
Refuses (request.PrintAll part) s fault.NoMemory = 0 < stale_count s.views
Refuses other s f = ⊥

-- what a refused line leaves: all as before, except that a print of all views may have made some of them current
abbrev pub Leaves : Request → State → State → Type 0
Leaves (request.PrintAll part) old new = IsButCurrent old new
Leaves other old new = new ≡ old

-- how a line that asks for this may end: it is done, and its text is written; or it is no request, or its request is refused, and
-- the message is that of the fault
abbrev pub Ends : Result Request Fault → State → State → Written → Type 0
Ends (Ok asks) old new written =
    (Does asks old new written.output × (written.refusal ≡ None))
    ⊎ ((f : Fault) × Refuses asks old f × Leaves asks old new × (written ≡ refused_by f))
Ends (Err f) old new written = (new ≡ old) × (written ≡ refused_by f)

-- what a line may do: from one state to another, with what it writes
abbrev pub RunsLine : State → List ℕ → State → Written → Type 0
RunsLine old line new written = Ends (asked old line) old new written

-- a view is to be printed, or all of them
abbrev pub AsksToPrint : Result Request Fault → Type 0
AsksToPrint (Ok (request.Print name part)) = Unit {0}
AsksToPrint (Ok (request.PrintAll part)) = Unit {0}
AsksToPrint other = ⊥

-- the line with which a run ends at a sink: at the output only a print that isn't refused, at the messages only a refused line. The
-- session is as before, except that some views may have become current
abbrev pub EndsAt : RunCause → Result Request Fault → State → State → Written → Type 0
EndsAt cause.Output asks old new written = AsksToPrint asks × (written.refusal ≡ None) × IsButCurrent old new
EndsAt cause.Messages asks old new written = IsSome written.refusal × IsButCurrent old new
EndsAt other asks old new written = ⊥
