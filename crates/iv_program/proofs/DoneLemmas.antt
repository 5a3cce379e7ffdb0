-- A run that gives the status 0.
use Rattle.std.specs.Prelude.{MatchResult}
use Rattle.std.proofs.Common.{◌≡◌, inl, inr, ℕ, Bool, true, false, List, [], ◌∷◌, append-nil, Option, None, Some, Result, Ok, Err, ◌==◌, if◌then◌else◌, refl, sym, ap, ◌∙◌, subst, eqb-true, arith}
use Rattle.iv_bytes.proofs.PutLemmas.{Takes-append}
use Rattle.iv_bytes.specs.Sinks.{SinkState, Takes, waiting}
use Rattle.iv_session.specs.Endings.{Ran}
use Rattle.iv_session.specs.Scripts.{Done}
use Rattle.iv_session.specs.Streams.{Streams}
use Rattle.iv_session.specs.declared.script.RunCause.{RunCause}
use Rattle.iv_session.specs.declared.script.RunCause.TheVariants as cause
use Rattle.iv_session.specs.declared.script.RunFault.{RunFault}
use Rattle.iv_session.specs.declared.script.Summary.{Summary}
use Rattle.iv_args.specs.Notices.{notice_of}
use Rattle.iv_args.specs.Texts.{notice_text}
use Rattle.iv_args.specs.Arguments.{RunPlan, IsPlan, is_session, run_of}
use Rattle.iv_args.proofs.ArgumentLemmas.{for-kind, said-same}
use Rattle.iv_args.specs.declared.subcommand.Subcommand.{Subcommand}
use Rattle.iv_args.specs.declared.subcommand.Subcommand.TheVariants as kind
use Rattle.std.specs.Option.{option_to_list}
use Rattle.iv_args.specs.declared.subcommand.Notice.{Notice}
use Rattle.iv_run.specs.Shots.{Shows, shown}
use Rattle.iv_run.specs.declared.exit_reason.CliFault.{CliFault}
use Rattle.iv_run.specs.declared.exit_reason.CliFault.TheVariants as fault
use Rattle.iv_run.specs.ExitReasons.{ending_of, is_through, status_of}
use Rattle.iv_cli.specs.ScriptEndings.{ending_of_cause}
use Rattle.iv_run.specs.declared.exit_reason.ExitReason.{ExitReason}
use Rattle.iv_run.specs.declared.exit_reason.ExitReason.TheVariants as exit_reason
use Rattle.iv_program.specs.Limits.{most_line_bytes}
use Rattle.iv_program.specs.Outcomes.{DoesAll, DoesAllWith, RunsAll}
use Rattle.iv_program.specs.Program.{Runs, Serves}
use Rattle.iv_program.specs.Runs.{DoesWith, HasNotRead, World}
use Rattle.iv_program.specs.Inside.Files.{IsWhy}
use Rattle.iv_program.specs.Inside.Runs.{PrintsView, RunsPlan, RunsScript}
use Rattle.iv_program.specs.Texts.{Texts}
use Rattle.iv_program.specs.declared.program.Ended.{Ended}

-- only a run that is done has the status 0
done-status : (e : ExitReason) → 0 ≡ status_of e → e ≡ exit_reason.Done
done-status exit_reason.Done is = refl
done-status e is = absurd (omega arith)

-- and none whose output was lost
not-lost : (e : ExitReason) → (if is_through e then exit_reason.Output else e) ≡ exit_reason.Done → ⊥
not-lost exit_reason.Done is = cc is
not-lost e is = cc is

-- no fault is done
no-fault : (k : CliFault) → exit_reason.Done ≡ ending_of k → ⊥
no-fault fault.Output e = cc e
no-fault k e = cc e

no-cause : (why : RunCause) → exit_reason.Done ≡ ending_of_cause why → ⊥
no-cause cause.Output e = cc e
no-cause why e = cc e

none-refused : (n : ℕ) (b : Bool) → (n == 0) ≡ b → exit_reason.Done ≡ (if b then exit_reason.Done else exit_reason.Refused) → n ≡ 0
none-refused n true t e = eqb-true n 0 t
none-refused n false t e = absurd (cc e)

-- a flush adds nothing
pub then-flushed : (o0 o1 o2 : SinkState) (text : List ℕ) → Takes o0 o1 text → Takes o1 o2 [] → Takes o0 o2 text
then-flushed o0 o1 o2 text took flushed = subst (λ (l : List ℕ). Takes o0 o2 l) (append-nil text) (Takes-append o0 o1 o2 text [] took flushed)

-- a view that is done was printed whole
view-done : (plan : RunPlan) (texts : Texts) (o0 o1 : SinkState) (ended : ExitReason) → PrintsView plan texts o0 o1 ended → ended ≡ exit_reason.Done
    → (text : List ℕ) × (shown plan texts.sizes texts.first texts.other texts.bases plan.limit ≡ Ok text) × Takes o0 o1 text
view-done plan texts o0 o1 ended prints is = by prints.0 prints.1 prints.2
  where
    by : (done : Result (Unit {0}) CliFault) → Shows o0 o1 done (shown plan texts.sizes texts.first texts.other texts.bases plan.limit)
        → MatchResult done (λ _. ended ≡ exit_reason.Done) (λ fault. ended ≡ ending_of fault)
        → (text : List ℕ) × (shown plan texts.sizes texts.first texts.other texts.bases plan.limit ≡ Ok text) × Takes o0 o1 text
    by (Ok done) shows e = shows
    by (Err k) shows e = absurd (no-fault k (sym is ∙ e))

-- a script that is done was run to its end, and no line refused
script-done : (plan : RunPlan) (texts : Texts) (before reached after : Streams) (ended : ExitReason) (line : ℕ) → RunsScript plan texts before reached ended line
    → ended ≡ exit_reason.Done → Takes reached.output after.output [] → RunsAll plan texts before after
script-done plan texts before reached after ended line (inr stopped) is flushed = absurd (no-fault stopped.0 (sym is ∙ stopped.3))
script-done plan texts before reached after ended line (inl begun) is flushed = over begun.2.run begun.2.ran begun.2.ends
  where
    over : (run : Result Summary RunFault) → Ran begun.0 begun.2.new before reached plan.limit most_line_bytes run
        → MatchResult run (λ summary. (ended ≡ (if summary.refused == 0 then exit_reason.Done else exit_reason.Refused)) × (line ≡ 0))
        (λ stopped. (ended ≡ ending_of_cause stopped.cause) × (line ≡ stopped.line))
        → RunsAll plan texts before after
    over (Err stopped) ran e = absurd (no-cause stopped.cause (sym is ∙ e.0))
    over (Ok summary) ran e = record {
      old = begun.0;
      new = begun.2.new;
      begins = begun.1;
      reached = reached;
      count = summary.lines;
      runs = subst (λ (n : ℕ). Done begun.0 begun.2.new before reached plan.limit most_line_bytes summary.lines n)
          (none-refused summary.refused (summary.refused == 0) refl (sym is ∙ e.0)) ran;
      flushed = flushed;
    }

-- what is done with the texts of a plan is done whole
does-done : (run : Subcommand) (plan : RunPlan) (texts : Texts) (before reached after : Streams) (ended : ExitReason) (line : ℕ) → DoesWith run plan texts before reached ended line
    → ended ≡ exit_reason.Done → Takes reached.output after.output [] → DoesAllWith (is_session run) plan texts before after
does-done kind.Session plan texts before reached after ended line does is flushed = script-done plan texts before reached after ended line does is flushed
does-done run plan texts before reached after ended line does is flushed =
    let printed = view-done plan texts before.output reached.output ended does.0 is in
    (printed.0, printed.1, then-flushed before.output reached.output after.output printed.0 printed.2 flushed)

-- no plan is done of which a file is not read
not-read : (plan : RunPlan) (before reached : World) (ended : ExitReason) (line : ℕ) → HasNotRead plan before reached ended line → exit_reason.Done ≡ ended → ⊥
not-read plan before reached ended line stopped is = by stopped.failed stopped.why
  where
    by : (failed : Bool) → IsWhy before.files stopped.name stopped.slot failed ended → ⊥
    by failed (inl unreadable) = cc (is, unreadable.1)
    by failed (inr (inl memory)) = cc (is, memory.1)
    by failed (inr (inr long)) = cc (is, long.2)

plan-done : (plan : RunPlan) (before reached after : World) (ended : ExitReason) (line : ℕ) → RunsPlan plan before reached ended line → ended ≡ exit_reason.Done
    → Takes reached.streams.output after.streams.output [] → DoesAll plan before after
plan-done plan before reached after ended line (inl read) is flushed = record {
  texts = read.texts;
  are = record { sizes = read.sizes; first = read.first; other = read.other; bases = read.bases };
  does = does-done plan.run plan read.texts before.streams reached.streams after.streams ended line read.does is flushed;
}
plan-done plan before reached after ended line (inr stopped) is flushed = absurd (not-read plan before reached ended line stopped (sym is))

-- the output of a run with the status 0 was flushed, and what was asked for was done
finished : (arguments : List (List ℕ)) (before after : World) (answer : Ended) (ran : Runs arguments before after answer) → status_of answer.exit_reason ≡ 0
    → (ran.ended ≡ exit_reason.Done) × Takes ran.reached.streams.output after.streams.output [] × (waiting after.streams.output ≡ [])
finished arguments before after answer ran none =
    let done = done-status answer.exit_reason (sym none) in
    elim ran.finishes.flushed [
      | inl flushed ↦ (sym flushed.2 ∙ done, flushed.0, flushed.1)
      | inr lost ↦ absurd (not-lost ran.ended (sym lost.1 ∙ done))
    ]

-- nothing waits in the output after such a run
pub none-waits : (arguments : List (List ℕ)) (before after : World) (answer : Ended) → Runs arguments before after answer → status_of answer.exit_reason ≡ 0
    → waiting after.streams.output ≡ []
none-waits arguments before after answer ran zero = (finished arguments before after answer ran zero).2

pub notice-done : (arguments : List (List ℕ)) (before after : World) (notice : Notice) (answer : Ended) → notice_of arguments ≡ Some notice → Runs arguments before after answer
    → status_of answer.exit_reason ≡ 0 → Takes before.streams.output after.streams.output (notice_text notice)
notice-done arguments before after notice answer is ran zero =
    let ends = finished arguments before after answer ran zero in
    let serves : Serves (Some notice) arguments before ran.reached ran.ended ran.name answer.line =
    subst (λ (o : Option Notice). Serves o arguments before ran.reached ran.ended ran.name answer.line) is ran.serves in
    elim serves.0 [
      | inl took ↦ then-flushed before.streams.output ran.reached.streams.output after.streams.output (notice_text notice) took.1 ends.1
      | inr lost ↦ absurd (cc (sym lost.0 ∙ ends.0))
    ]

-- ---- at most one plan fits arguments

plan-with : Subcommand → List ℕ → List ℕ → Option (List ℕ) → Option (List ℕ) → ℕ → ℕ → List (List ℕ) → RunPlan
plan-with run sizes first other bases width limit view = record { run = run; sizes = sizes; first = first; other = other; bases = bases; width = width; limit = limit; view = view }

pub one-plan : (arguments : List (List ℕ)) (p q : RunPlan) → IsPlan arguments p → IsPlan arguments q → p ≡ q
unfolding plan-with
one-plan arguments p q a b =
    let are : a.argument ∷ a.rest ≡ b.argument ∷ b.rest = sym a.are ∙ b.are in
    let argument : a.argument ≡ b.argument = cc are in
    let rest : a.rest ≡ b.rest = cc are in
    let some_run : Some p.run ≡ Some q.run = sym a.run ∙ ap run_of argument ∙ b.run in
    let run : p.run ≡ q.run = cc some_run in
    let some_parts : Some a.parts ≡ Some b.parts = cc (a.splitting, b.splitting, run, rest) in
    let parts : a.parts ≡ b.parts = cc some_parts in
    let sizes : p.sizes ≡ q.sizes = cc (a.sizes, b.sizes, parts) in
    let first : p.first ≡ q.first = cc (a.first, b.first, parts) in
    let others : option_to_list p.other ≡ option_to_list q.other = cc (a.other, b.other, parts) in
    let basess : option_to_list p.bases ≡ option_to_list q.bases = cc (a.bases, b.bases, parts) in
    let other : p.other ≡ q.other = said-same p.other q.other others in
    let bases : p.bases ≡ q.bases = said-same p.bases q.bases basess in
    let some_width : Some p.width ≡ Some q.width = cc (a.width, b.width, parts) in
    let width : p.width ≡ q.width = cc some_width in
    let some_limit : Some p.limit ≡ Some q.limit = cc (a.limit, b.limit, parts) in
    let limit : p.limit ≡ q.limit = cc some_limit in
    let one = (for-kind p.run a.argument a.parts p.view p.other p.bases a.other a.bases a.kind).view_is in
    let two = (for-kind q.run b.argument b.parts q.view q.other q.bases b.other b.bases b.kind).view_is in
    let view : p.view ≡ q.view = cc (one, two, run, argument, parts) in
    let same : plan-with p.run p.sizes p.first p.other p.bases p.width p.limit p.view ≡ plan-with q.run q.sizes q.first q.other q.bases q.width q.limit q.view =
    cc (run, sizes, first, other, bases, width, limit, view) in
    same

pub plan-all-done : (arguments : List (List ℕ)) (before after : World) (plan : RunPlan) (answer : Ended) → notice_of arguments ≡ None → IsPlan arguments plan → Runs arguments before after answer
    → status_of answer.exit_reason ≡ 0 → DoesAll plan before after
plan-all-done arguments before after plan answer none is ran zero =
    by (subst (λ (o : Option Notice). Serves o arguments before ran.reached ran.ended ran.name answer.line) none ran.serves)
  where
    ends : (ran.ended ≡ exit_reason.Done) × Takes ran.reached.streams.output after.streams.output [] × (waiting after.streams.output ≡ [])
    ends = finished arguments before after answer ran zero

    by : Serves None arguments before ran.reached ran.ended ran.name answer.line → DoesAll plan before after
    by (inl planned) = subst (λ (p : RunPlan). DoesAll p before after) (one-plan arguments planned.0 plan planned.1 is)
        (plan-done planned.0 before ran.reached after ran.ended answer.line planned.3 ends.0 ends.1)
    by (inr (inl memory, same, no_line)) = absurd (cc (sym memory ∙ ends.0))
    by (inr (inr wrong, same, no_line)) = absurd (cc (sym wrong.0 ∙ ends.0))
