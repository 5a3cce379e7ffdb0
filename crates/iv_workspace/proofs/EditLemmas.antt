-- Edits of the two tracks of a session.
use Rattle.std.specs.Prelude.{All, IsSomeAnd}
use Rattle.std.proofs.Common.{◌≡◌, ◌∙◌, ℕ, ◌<◌, List, [], ◌∷◌, Option, None, Some, length, arith, refl, sym, ap, subst}
use Rattle.iv_lines.specs.Genome.{Sequences}
use Rattle.iv_lines.specs.Ordered.{AreInOrder, copies}
use Rattle.iv_lines.specs.Read.{Fits}
use Rattle.iv_lines.specs.RecordValue.{RecordValue, record_cmp, records_total}
use Rattle.iv_lines.proofs.OrderedLemmas.{copies-added, length-added}
use Rattle.iv_lines.proofs.RecordLemmas.{rows_exact}
use Rattle.iv_lines.specs.declared.fault.Fault.{Fault}
use Rattle.iv_lines.specs.declared.fault.Fault.TheVariants as fault
use Rattle.iv_track.specs.Edits.{RefusesAdd, RefusesRemove, RefusesReplace, with_record, without_record, with_replaced}
use Rattle.iv_track.specs.Tracked.{Tracked}
use Rattle.iv_track.proofs.Counts.{length-removed, removed-added}
use Rattle.iv_track.proofs.Edits.{All-added, All-removed, added-removed}
use Rattle.iv_workspace.specs.Edits.{Allows, EditFits, FitsIn, RefusesEdit, edited}
use Rattle.iv_workspace.specs.OpenViews.{Shown}
use Rattle.iv_workspace.specs.States.{State}
use Rattle.iv_workspace.specs.Inside.States.{IsTrackOn, AreServed, IsSession}
use Rattle.iv_workspace.specs.Inside.ViewStates.{IsChanged}
use Rattle.iv_workspace.specs.declared.session.edits.Edit.{Edit}
use Rattle.iv_workspace.specs.declared.session.edits.Edit.TheVariants as edit
use Rattle.iv_workspace.specs.declared.session.edits.Target.TheVariants as target
use Rattle.iv_workspace.specs.declared.views.states.Change.{Change}
use Rattle.iv_workspace.specs.declared.views.states.Change.TheVariants.{Added, Removed}

-- ---- one track

track-added : (g : Sequences) (t : Tracked) (r : RecordValue) → IsTrackOn g t → Fits g t.width r → length t.records < t.limit → IsTrackOn g (with_record r t)
track-added g t r is fits room = record {
  low = is.low;
  high = is.high;
  fit = All-added (Fits g t.width) t.records r is.fit fits;
  few = omega (arith, length-added record_cmp t.records r);
}

track-removed : (g : Sequences) (t : Tracked) (r : RecordValue) → IsTrackOn g t → 0 < copies t.records r → IsTrackOn g (without_record r t)
track-removed g t r is there = record {
  low = is.low;
  high = is.high;
  fit = All-removed (Fits g t.width) t.records r is.fit;
  few = omega (arith, length-removed record_cmp t.records r there, is.few);
}

-- after an edit that it allows, of records that fit, it is still a session's track
pub track-edited : (g : Sequences) (t : Tracked) (e : Edit) → IsTrackOn g t → EditFits (Fits g t.width) e → Allows e t → IsTrackOn g (edited e t)
track-edited g t (edit.Add r) is fits room = track-added g t r is fits room
track-edited g t (edit.Remove r) is fits there = track-removed g t r is there
track-edited g t (edit.Replace r q) is fits there =
    track-added g (without_record r t) q (track-removed g t r is there) fits.1 (omega (arith, length-removed record_cmp t.records r there, is.few))

-- a track before and after a copy of a record was added or taken out
pub record Changed (change : Change) (g : Sequences) (old new : Tracked) (r : RecordValue) : Type 0 where
  pub changed : IsChanged change r old.records new.records
  pub fit : All (Fits g new.width) new.records
  pub fits : Fits g new.width r

pub changed-added : (g : Sequences) (old new : Tracked) (r : RecordValue)
    → All (Fits g old.width) old.records → Fits g old.width r → new ≡ with_record r old → Changed Added g old new r
changed-added g old new r fit fits is =
    subst (λ (t : Tracked). Changed Added g old t r) (sym is) (record { changed = refl; fit = All-added (Fits g old.width) old.records r fit fits; fits = fits })

pub changed-removed : (g : Sequences) (old new : Tracked) (r : RecordValue)
    → All (Fits g old.width) old.records → Fits g old.width r → AreInOrder old.records → 0 < copies old.records r → new ≡ without_record r old → Changed Removed g old new r
changed-removed g old new r fit fits order there is =
    subst (λ (t : Tracked). Changed Removed g old t r) (sym is)
    (record { changed = added-removed old.records r order there; fit = All-removed (Fits g old.width) old.records r fit; fits = fits })

pub staged-there : (old mid : Tracked) (r q : RecordValue) → 0 < copies old.records r → mid ≡ with_record q old → 0 < copies mid.records r
staged-there old mid r q there is = subst (λ (t : Tracked). 0 < copies t.records r) (sym is) (omega (arith, there, copies-added record_cmp old.records q r))

-- a record was added, and then one copy of another taken out
pub replaced-is : (old mid new : Tracked) (r q : RecordValue) → AreInOrder old.records → 0 < copies old.records r
    → mid ≡ with_record q old → new ≡ without_record r mid → new ≡ with_replaced r q old
replaced-is old mid new r q order there staged taken =
    taken ∙ ap (without_record r) staged
    ∙ ap (λ (l : List RecordValue). record old { records = l }) (removed-added record_cmp records_total rows_exact old.records q r order there)

-- ---- why an edit is refused: what each call says is what the definition says

pub refuses-added : (t : Tracked) (r : RecordValue) (f : Fault) → RefusesAdd t r f → RefusesEdit (edit.Add r) t f
refuses-added t r fault.Full h = h
refuses-added t r fault.NoMemory h = h
refuses-added t r other h = absurd h

pub refuses-removed : (t : Tracked) (r : RecordValue) (f : Fault) → RefusesRemove t r f → RefusesEdit (edit.Remove r) t f
refuses-removed t r fault.Absent h = h
refuses-removed t r other h = absurd h

pub refuses-replaced : (t : Tracked) (r q : RecordValue) (f : Fault) → RefusesReplace t r q f → RefusesEdit (edit.Replace r q) t f
refuses-replaced t r q fault.Absent h = h
refuses-replaced t r q fault.NoMemory h = h
refuses-replaced t r q other h = absurd h

-- ---- the second file

-- what an edit of it needs is that there is one and that the records fit it
pub fits-second : (e : Edit) (inside s : State) → inside ≡ s → EditFits (FitsIn s target.Second) e → IsSomeAnd inside.second (λ t. EditFits (Fits inside.genome t.width) e)
fits-second e inside s same fits = subst (λ (x : State). IsSomeAnd x.second (λ t. EditFits (Fits x.genome t.width) e)) (sym same) (by e s.second fits)
  where
    by : (e : Edit) (o : Option Tracked) → EditFits (λ r. IsSomeAnd o (λ t. Fits s.genome t.width r)) e → IsSomeAnd o (λ t. EditFits (Fits s.genome t.width) e)
    by (edit.Add r) o fits = fits
    by (edit.Remove r) o fits = fits
    by (edit.Replace r q) None fits = fits.0
    by (edit.Replace r q) (Some t) fits = fits

-- views beside a second file are served, whatever it holds
served-second : (second : Option Tracked) (u : Tracked) (views : List (List ℕ × Shown)) → AreServed second views → AreServed (Some u) views
served-second second u [] served = tt
served-second second u (v ∷ views) served = (λ needs. refl, served-second second u views served.1)

pub session-second : (g : Sequences) (track : Tracked) (second : Option Tracked) (u : Tracked) (views : List (List ℕ × Shown)) → IsSession g track second views → IsTrackOn g u
    → IsSession g track (Some u) views
session-second g track second u views whole on = record {
  track_is = whole.track_is;
  second_is = on;
  served = served-second second u views whole.served;
  fresh = whole.fresh;
}
