-- Edits of the two tracks of a session: what an edit leaves, how many steps it takes, and why it is refused; and the records of the second file.
use Rattle.std.specs.Prelude.{ℕ, ◌≡◌, ◌≤◌, ◌<◌, ◌+◌, List, Option, None, Some, MatchOption, Result, Ok, Err, IsSomeAnd, length}
use Rattle.std.specs.Option.{ok_or, option_map, unwrap_or}
use Rattle.iv_lines.specs.Genome.{Sequences}
use Rattle.iv_lines.specs.Ordered.{added, added_by, copies}
use Rattle.iv_lines.specs.Read.{Fits, read}
use Rattle.iv_lines.specs.RecordValue.{RecordValue, record_cmp}
use Rattle.iv_lines.specs.declared.fault.Fault.{Fault}
use Rattle.iv_lines.specs.declared.fault.Fault.TheVariants as fault
use Rattle.iv_track.specs.Copies.{removed_by}
use Rattle.iv_track.specs.Tracked.{Tracked}
use Rattle.iv_workspace.specs.OpenViews.{Stales, all_steps, stale_count}
use Rattle.iv_workspace.specs.States.{State, FitsSecond}
use Rattle.iv_workspace.specs.declared.session.edits.Accepted.{Accepted}
use Rattle.iv_workspace.specs.declared.session.edits.Edit.{Edit}
use Rattle.iv_workspace.specs.declared.session.edits.Edit.TheVariants as edit
use Rattle.iv_workspace.specs.declared.session.edits.Target.{Target}
use Rattle.iv_workspace.specs.declared.session.edits.Target.TheVariants as target

-- the record that a line means at the width of a second track, or its first fault: that there is no such track is reported first
abbrev pub read_beside : Sequences → Option Tracked → List ℕ → Result RecordValue Fault
read_beside g None line = Err fault.NoSecond
read_beside g (Some t) line = read g t.width line

-- the same at the width of the session's second file
abbrev pub read_second : State → List ℕ → Result RecordValue Fault
read_second s line = read_beside s.genome s.second line

-- the width of the track that an edit is for, or that there is no second file
abbrev pub width_of : State → Target → Result ℕ Fault
width_of s target.First = Ok s.track.width
width_of s target.Second = ok_or (option_map (λ t. t.width) s.second) fault.NoSecond

-- a record fits the track that an edit is for
abbrev pub FitsIn : State → Target → RecordValue → Type 0
FitsIn s target.First r = Fits s.genome s.track.width r
FitsIn s target.Second r = FitsSecond s r

-- each record of an edit fits
abbrev pub EditFits : (RecordValue → Type 0) → Edit → Type 0
EditFits Fit (edit.Add r) = Fit r
EditFits Fit (edit.Remove r) = Fit r
EditFits Fit (edit.Replace r q) = Fit r × Fit q

-- the record of which an edit takes a copy out of its track, and the one that it puts in, if it does
abbrev pub taken_out : Edit → Option RecordValue
taken_out (edit.Add r) = None
taken_out (edit.Remove r) = Some r
taken_out (edit.Replace r q) = Some r

abbrev pub put_in : Edit → Option RecordValue
put_in (edit.Add r) = Some r
put_in (edit.Remove r) = None
put_in (edit.Replace r q) = Some q

-- what an edit needs of its track: a copy of the record that it takes out; or room for one more record, if it takes none out
abbrev pub Allows : Edit → Tracked → Type 0
Allows e t = MatchOption (taken_out e) (length t.records < t.limit) (λ r. 0 < copies t.records r)

-- the track after an edit: without one copy of the record that is taken out, and with the one that is put in, in its place in the order
abbrev pub edited : Edit → Tracked → Tracked
edited e t =
    let left = unwrap_or (option_map (removed_by record_cmp t.records) (taken_out e)) t.records in
    record t { records = unwrap_or (option_map (added_by record_cmp left) (put_in e)) left }

-- why an edit of a track is refused: the record that it takes out isn't there; it takes none out, and the track holds its limit; or
-- memory ran out, for a track grows only if it allows the edit, and only for a record that isn't there
abbrev pub RefusesEdit : Edit → Tracked → Fault → Type 0
RefusesEdit e t fault.Absent = IsSomeAnd (taken_out e) (λ r. copies t.records r ≡ 0)
RefusesEdit e t fault.Full = MatchOption (taken_out e) (t.limit ≤ length t.records) (λ r. ⊥)
RefusesEdit e t fault.NoMemory = Allows e t × IsSomeAnd (put_in e) (λ r. copies t.records r ≡ 0)
RefusesEdit e t other = ⊥

-- the edit is done of a track that has what it needs: that track is edited, and all else stays; but an edit of the session's own
-- track may leave views stale
abbrev pub IsEdited : Target → Edit → State → State → Type 0
IsEdited target.First e old new =
    Allows e old.track × (new ≡ record old { track = edited e old.track; views = new.views }) × Stales old.views new.views
IsEdited target.Second e old new =
    IsSomeAnd old.second (Allows e) × (new ≡ record old { second = option_map (edited e) old.second })

-- the most steps that an edit takes: 8 in the track and those of the views for each record added or taken out; 16 in the second file
abbrev pub most_steps : Target → Edit → State → ℕ
most_steps target.First (edit.Add r) s = 8 + all_steps s.views (added s.track.records r) r
most_steps target.First (edit.Remove r) s = 8 + all_steps s.views s.track.records r
most_steps target.First (edit.Replace r q) s = 8 + all_steps s.views (added s.track.records q) q + all_steps s.views (added s.track.records q) r
most_steps target.Second e s = 16

-- what an edit answers that is done: steps within its bound, and how many views are stale after it
pub record IsDone (to : Target) (e : Edit) (old new : State) (a : Accepted) : Type 0 where
  pub done : IsEdited to e old new
  pub steps : a.steps ≤ most_steps to e old
  pub stale : a.stale ≡ stale_count new.views

-- why an edit of a session's track, or of its second file, is refused
abbrev pub RefusesIn : Target → Edit → State → Fault → Type 0
RefusesIn target.First e s f = RefusesEdit e s.track f
RefusesIn target.Second e s f = IsSomeAnd s.second (λ t. RefusesEdit e t f)
