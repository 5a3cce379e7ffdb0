-- One line of a script.
use Rattle.std.proofs.Common.{◌≡◌, ◌⊎◌, ℕ, List, [], Option, Some, None, Result, Ok, Err, inl, inr, refl, sym, ap, ◌∙◌, subst, take}
use Rattle.std.specs.Prelude.{IsSome, MatchOption, MatchResult, if◌then◌else◌, length, nat_le, not}
use Rattle.std.specs.Option.{is_some}
use Rattle.iv_bytes.specs.Sinks.{SinkState, Takes, FailsIn}
use Rattle.iv_bytes.proofs.PutLemmas.{Takes-nothing}
use Rattle.iv_lines.specs.Fields.{words}
use Rattle.iv_lines.specs.declared.fault.Fault.{Fault}
use Rattle.iv_lines.specs.declared.fault.Fault.TheVariants as fault
use Rattle.iv_track.specs.declared.region.Region.{Region}
use Rattle.iv_view.specs.declared.view.View.{View}
use Rattle.iv_view.proofs.ArgumentLemmas.{words-cut}
use Rattle.iv_workspace.specs.OpenViews.{Shown}
use Rattle.iv_workspace.specs.Prints.{PrintedNamed, PrintedView, PrintedAll, IsButCurrent}
use Rattle.iv_workspace.specs.States.{State}
use Rattle.iv_workspace.specs.Views.{is_view_name, view_named, view_asked, Opens, RefusesOpen, all_text, text_in}
use Rattle.iv_workspace.specs.declared.fault.PrintFault.{PrintFault}
use Rattle.iv_workspace.specs.declared.fault.PrintFault.TheVariants as printing
use Rattle.iv_session.specs.Requests.{asked}
use Rattle.iv_session.specs.Written.{Written, refused_by, message}
use Rattle.iv_session.specs.ScriptLines.{AsksToPrint, Does, Ends, Leaves, Refuses, RunsLine}
use Rattle.iv_session.specs.Inside.ScriptLines.{RunsLast, Writes, WritesFault}
use Rattle.iv_session.specs.Inside.Scripts.{refusal_of, refusal_count, RanLine, FailedLine, Tells, refusals_of}
use Rattle.iv_session.specs.declared.request.Request.{Request}
use Rattle.iv_session.specs.declared.request.Request.TheVariants as request
use Rattle.iv_session.specs.declared.line.Outcome.{Outcome}
use Rattle.iv_session.specs.declared.line.Outcome.TheVariants as outcome
use Rattle.iv_session.specs.declared.script.RunCause.{RunCause}
use Rattle.iv_session.specs.declared.script.RunCause.TheVariants as cause
use Rattle.iv_workspace.proofs.OpenViewLemmas.{freshens-same, freshens-all, freshens-one}

-- ---- a request

-- a line is done, and its text is put
pub done : (asks : Request) (old new : State) (out0 out1 : SinkState) (text : List ℕ)
    → Does asks old new text → Takes out0 out1 text → Writes (Ok asks) old new out0 out1 (Ok tt)
done asks old new out0 out1 text does took = record {
  written = record { output = text; refusal = None };
  ends = inl (does, refl);
  writes = (took, refl);
  prints = tt;
}

-- a line is done that prints nothing
pub done-silent : (asks : Request) (old new : State) (out : SinkState) → Does asks old new [] → Writes (Ok asks) old new out out (Ok tt)
done-silent asks old new out does = done asks old new out out [] does (Takes-nothing out)

-- a print is done, and the output failed at its text
pub done-failed : (asks : Request) (old new : State) (out0 out1 : SinkState) (text : List ℕ)
    → AsksToPrint (Ok asks) → Does asks old new text → FailsIn out0 out1 text → Writes (Ok asks) old new out0 out1 (Err printing.Write)
done-failed asks old new out0 out1 text print does failed = record {
  written = record { output = text; refusal = None };
  ends = inl (does, refl);
  writes = (failed, refl);
  prints = λ none. print;
}

-- a line is refused
pub refused : (asks : Request) (old new : State) (out : SinkState) (f : Fault)
    → Refuses asks old f → Leaves asks old new → Writes (Ok asks) old new out out (Err (printing.Refused f))
refused asks old new out f why left = record {
  written = refused_by f;
  ends = inr (f, why, left, refl);
  writes = (Takes-nothing out, refl);
  prints = λ none. absurd (cc none);
}

-- a line that is no request
pub not-asked : (asks : Result Request Fault) (s : State) (out : SinkState) (f : Fault) → Err f ≡ asks
    → Writes asks s s out out (Err (printing.Refused f))
not-asked asks s out f is =
    let none : Writes (Err f) s s out out (Err (printing.Refused f)) = record {
      written = refused_by f;
      ends = (refl, refl);
      writes = (Takes-nothing out, refl);
      prints = λ none. absurd (cc none);
    } in
    subst (λ (a : Result Request Fault). Writes a s s out out (Err (printing.Refused f))) is none

-- a line that is a request
pub is-asked : (asks : Result Request Fault) (old new : State) (out0 out1 : SinkState) (r : Request) (result : Result (Unit {0}) PrintFault)
    → Ok r ≡ asks → Writes (Ok r) old new out0 out1 result → Writes asks old new out0 out1 result
is-asked asks old new out0 out1 r result is writes =
    subst (λ (a : Result Request Fault). Writes a old new out0 out1 result) is writes

-- words that are cut off after the ninth open the same view
opened-cut : (s : State) (name text : List ℕ) → view_asked s name (take 9 (words text)) ≡ view_asked s name (words text)
opened-cut s name text =
    ap (λ (said : Result View Fault).
    if not (is_view_name name) then Err fault.BadName
    else if is_some (view_named s.views name) then Err fault.Taken
    else if nat_le 64 (length s.views) then Err fault.TooMany
    else said) (words-cut s.track.width (is_some s.second) (is_some s.bases) (words text))

pub Opens-cut : (s new : State) (name text : List ℕ) → Opens s name (take 9 (words text)) new → Opens s name (words text) new
Opens-cut s new name text (view, is, same) = (view, sym (opened-cut s name text) ∙ is, same)

pub RefusesOpen-cut : (s : State) (name text : List ℕ) (f : Fault) → RefusesOpen s name (take 9 (words text)) f
    → RefusesOpen s name (words text) f
RefusesOpen-cut s name text f why = rw (sym (opened-cut s name text)) why

-- ---- a print

pub printed-view : (part : Option Region) (s new : State) (given name : List ℕ) (out0 out1 : SinkState) (result : Result (Unit {0}) PrintFault) → given ≡ name
    → PrintedNamed part s given new out0 out1 result → Writes (Ok (request.Print name part)) s new out0 out1 result
printed-view part s new given name out0 out1 result same it =
    by (view_named s.views name) refl result (subst (λ (n : List ℕ). PrintedNamed part s n new out0 out1 result) same it)
  where
    by : (o : Option Shown) → view_named s.views name ≡ o → (r : Result (Unit {0}) PrintFault)
        → MatchOption o ((r ≡ Err (printing.Refused fault.NoView)) × (out1 ≡ out0) × (new ≡ s)) (λ v. PrintedView part s name v new out0 out1 r)
        → Writes (Ok (request.Print name part)) s new out0 out1 r
    by None is r it =
        subst (λ (a : Result (Unit {0}) PrintFault). Writes (Ok (request.Print name part)) s new out0 out1 a) (sym it.0)
        (subst (λ (o : SinkState). Writes (Ok (request.Print name part)) s new out0 o (Err (printing.Refused fault.NoView))) (sym it.1)
        (refused (request.Print name part) s new out0 fault.NoView is it.2))
    by (Some v) is (Ok tt) it = done (request.Print name part) s new out0 out1 (text_in part s v.view) (v, is, it.1, refl) it.0
    by (Some v) is (Err printing.Write) it = done-failed (request.Print name part) s new out0 out1 (text_in part s v.view) tt (v, is, it.1, refl) it.0
    by (Some v) is (Err (printing.Refused fault.NoMemory)) it =
        subst (λ (o : SinkState). Writes (Ok (request.Print name part)) s new out0 o (Err (printing.Refused fault.NoMemory))) (sym it.2)
        (refused (request.Print name part) s new out0 fault.NoMemory (v, is, it.0) it.3)
    by (Some v) is (Err (printing.Refused other)) it = absurd it

-- a print of all views
pub printed-all : (part : Option Region) (s new : State) (out0 out1 : SinkState) (result : Result (Unit {0}) PrintFault) → PrintedAll part s new out0 out1 result
    → Writes (Ok (request.PrintAll part)) s new out0 out1 result
printed-all part s new out0 out1 (Ok tt) it = done (request.PrintAll part) s new out0 out1 (all_text part s) (it.1, refl) it.0
printed-all part s new out0 out1 (Err printing.Write) it = done-failed (request.PrintAll part) s new out0 out1 (all_text part s) tt (it.1, refl) it.0
printed-all part s new out0 out1 (Err (printing.Refused fault.NoMemory)) it =
    subst (λ (o : SinkState). Writes (Ok (request.PrintAll part)) s new out0 o (Err (printing.Refused fault.NoMemory))) (sym it.1)
    (refused (request.PrintAll part) s new out0 fault.NoMemory it.0 it.2)
printed-all part s new out0 out1 (Err (printing.Refused other)) it = absurd it

-- ---- how a run ends at a line

-- a print leaves the session as before, except that some views may have become current
fresher-done : (asks : Request) (old new : State) (text : List ℕ) → AsksToPrint (Ok asks) → Does asks old new text → IsButCurrent old new
fresher-done (request.Print name part) old new text print (v, named, is, same) =
    subst (IsButCurrent old) (sym is) (refl, freshens-one old.views name)
fresher-done (request.PrintAll part) old new text print (is, same) = subst (IsButCurrent old) (sym is) (refl, freshens-all old.views)
fresher-done asks old new text print does = absurd print

-- nothing has changed
fresher-same : (old new : State) → new ≡ old → IsButCurrent old new
fresher-same old new same = subst (IsButCurrent old) (sym same) (refl, freshens-same old.views)

-- a refused line leaves it so too
fresher-left : (asks : Request) (old new : State) → Leaves asks old new → IsButCurrent old new
fresher-left (request.PrintAll part) old new left = left
fresher-left asks old new left = fresher-same old new left

-- a line that ended with the refusal that it writes
fresher-ends : (asks : Result Request Fault) (old new : State) (written : Written) → Ends asks old new written
    → AsksToPrint asks ⊎ IsSome written.refusal → IsButCurrent old new
fresher-ends (Ok asks) old new written (inl (does, is)) (inl print) = fresher-done asks old new written.output print does
fresher-ends (Ok asks) old new written (inl (does, is)) (inr refusal) =
    let none : IsSome {T = List ℕ} None = subst (λ (r : Option (List ℕ)). IsSome r) is refusal in absurd (cc (none))
fresher-ends (Ok asks) old new written (inr (f, why, left, is)) which = fresher-left asks old new left
fresher-ends (Err f) old new written (same, is) which = fresher-same old new same

-- ---- what is reported of a line

-- the fact that each line ends with
abbrev pub Ran : State → List ℕ → State → ℕ → SinkState → SinkState → SinkState → SinkState → Result Outcome RunCause → Type 0
Ran old text new n out0 out1 said0 said1 result = MatchResult result
    (λ ended_as. RanLine (RunsLine old text new) n out0 out1 said0 said1 ended_as) (λ failed. FailedLine (RunsLast failed old text new) n out0 out1 said0 said1 failed)

-- a line that was done
pub ran-done : (old : State) (text : List ℕ) (new : State) (n : ℕ) (out0 out1 said : SinkState)
    → Writes (asked old text) old new out0 out1 (Ok tt) → RanLine (RunsLine old text new) n out0 out1 said said outcome.Done
ran-done old text new n out0 out1 said did = record {
  written = did.written;
  makes = did.ends;
  output = did.writes.0;
  messages = subst (λ (r : Option (List ℕ)). Takes said said (message n r)) (sym did.writes.1) (Takes-nothing said);
  count = ap refusal_count did.writes.1;
}

-- a line that was not done
pub ran-fault : (old : State) (text : List ℕ) (new : State) (n : ℕ) (out0 out1 said0 said1 : SinkState) (f : PrintFault) (result : Result Outcome RunCause)
    → Writes (asked old text) old new out0 out1 (Err f) → Tells (refusal_of f) n said0 said1 result → Ran old text new n out0 out1 said0 said1 result
ran-fault old text new n out0 out1 said0 said1 f result did says = by (refusal_of f) result did.writes did.prints says
  where
    by : (code : Option Fault) (result : Result Outcome RunCause) → WritesFault code out0 out1 did.written → (code ≡ None → AsksToPrint (asked old text))
        → Tells code n said0 said1 result → Ran old text new n out0 out1 said0 said1 result
    by None (Ok ended_as) writes prints says = absurd says
    by None (Err failed) writes prints says =
        let print = prints refl in
        let whole : FailedLine (RunsLast cause.Output old text new) n out0 out1 said0 said0 cause.Output = record {
          written = did.written;
          makes = (did.ends, (print, writes.1, fresher-ends (asked old text) old new did.written did.ends (inl print)));
          texts = (writes.0, Takes-nothing said0);
        } in
        subst (λ (o : SinkState). FailedLine (RunsLast failed old text new) n out0 out1 said0 o failed) (sym says.0)
        (subst (λ (c : RunCause). FailedLine (RunsLast c old text new) n out0 out1 said0 said0 c) (sym says.1) whole)
    by (Some code) (Ok ended_as) writes prints says = record {
      written = did.written;
      makes = did.ends;
      output = writes.0;
      messages = subst (λ (r : Option (List ℕ)). Takes said0 said1 (message n r)) (sym writes.1) says.0;
      count = ap refusal_count writes.1 ∙ sym (ap refusals_of says.1);
    }
    by (Some code) (Err failed) writes prints says =
        let some : IsSome did.written.refusal = subst (λ (r : Option (List ℕ)). IsSome r) (sym writes.1) refl in
        let whole : FailedLine (RunsLast cause.Messages old text new) n out0 out1 said0 said1 cause.Messages = record {
          written = did.written;
          makes = (did.ends, (some, fresher-ends (asked old text) old new did.written did.ends (inr some)));
          texts = (writes.0, subst (λ (r : Option (List ℕ)). FailsIn said0 said1 (message n r)) (sym writes.1) says.0);
        } in
        subst (λ (c : RunCause). FailedLine (RunsLast c old text new) n out0 out1 said0 said1 c) (sym says.1) whole
