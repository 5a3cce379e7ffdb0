-- A run of one subcommand that nothing hinders.
use Rattle.std.specs.Prelude.{MatchResult}
use Rattle.std.proofs.Common.{◌≡◌, ◌⊎◌, ◌<◌, inl, inr, ℕ, Bool, true, false, true≢false, List, [], length, Option, None, Some, Result, Ok, Err, IfSome, sym, ap, ◌∙◌, subst, arith}
use Rattle.iv_bytes.specs.Sinks.{SinkState, Takes, FailsIn}
use Rattle.iv_session.specs.Streams.{Streams}
use Rattle.iv_args.specs.Notices.{notice_of}
use Rattle.iv_args.specs.declared.subcommand.Notice.{Notice}
use Rattle.iv_args.specs.Arguments.{RunPlan, IsPlan, file_of, is_session}
use Rattle.iv_args.specs.declared.subcommand.Subcommand.{Subcommand}
use Rattle.iv_args.specs.declared.subcommand.Subcommand.TheVariants as kind
use Rattle.iv_args.specs.declared.plan.Slot.{Slot}
use Rattle.iv_args.specs.declared.plan.Slot.TheVariants.{Sizes, First, Other, Bases}
use Rattle.iv_run.specs.Shots.{Shows, shown}
use Rattle.iv_run.specs.declared.exit_reason.CliFault.{CliFault}
use Rattle.iv_run.specs.declared.exit_reason.CliFault.TheVariants as fault
use Rattle.iv_run.specs.ExitReasons.{ending_of, is_through, line_of, name_meant, status_of}
use Rattle.iv_run.specs.declared.exit_reason.ExitReason.{ExitReason}
use Rattle.iv_run.specs.declared.exit_reason.ExitReason.TheVariants as exit_reason
use Rattle.iv_program.specs.Files.{FilesState, after_one, after_reading}
use Rattle.iv_program.specs.Limits.{most_file_bytes}
use Rattle.iv_program.specs.Outcomes.{IsSound, HasBytes, Hold, PrintsJust}
use Rattle.iv_program.specs.Program.{Finishes, Runs, Serves}
use Rattle.iv_program.specs.Runs.{DoesWith, World}
use Rattle.iv_program.specs.Inside.Files.{IsWhy}
use Rattle.iv_program.specs.Inside.Runs.{PrintsView, RunsPlan}
use Rattle.iv_program.specs.Texts.{Texts, AreTexts, IsTextIfNamed, names_before}
use Rattle.iv_program.specs.declared.program.Ended.{Ended}
use Rattle.iv_program.proofs.DoneLemmas.{one-plan, then-flushed}

-- ---- files

-- a file has one text
text-known : (files : FilesState) (name : Option (List ℕ)) (text bytes : Option (List ℕ)) → IsTextIfNamed files name text → HasBytes files name bytes → text ≡ bytes
text-known files None text bytes is has = is ∙ sym has
text-known files (Some name) None bytes is has = absurd is
text-known files (Some name) (Some text) bytes is has =
    let known : has.0 ≡ text = subst (λ (o : Option (List ℕ)). IfSome o (λ known. known ≡ text)) has.1 is.0 in
    ap Some (sym known) ∙ sym has.3

texts-known : (files : FilesState) (plan : RunPlan) (texts held : Texts) → AreTexts files plan texts → Hold files plan held → texts ≡ held
texts-known files plan texts held are hold =
    let sizes : Some texts.sizes ≡ Some held.sizes = text-known files (Some plan.sizes) (Some texts.sizes) (Some held.sizes) are.sizes hold.sizes in
    let first : Some texts.first ≡ Some held.first = text-known files (Some plan.first) (Some texts.first) (Some held.first) are.first hold.first in
    let other : texts.other ≡ held.other = text-known files plan.other texts.other held.other are.other hold.other in
    let bases : texts.bases ≡ held.bases = text-known files plan.bases texts.bases held.bases are.bases hold.bases in
    let is_sizes : texts.sizes ≡ held.sizes = cc sizes in
    let is_first : texts.first ≡ held.first = cc first in
    λ i. record { sizes = is_sizes i; first = is_first i; other = other i; bases = bases i }

-- none is too long
slot-known : (files : FilesState) (plan : RunPlan) (texts : Texts) (slot : Slot) (name : List ℕ) → Hold files plan texts → file_of plan slot ≡ Some name
    → (bytes : Option (List ℕ)) × HasBytes files (Some name) bytes
slot-known files plan texts Sizes name hold named = (Some texts.sizes, subst (λ (o : Option (List ℕ)). HasBytes files o (Some texts.sizes)) named hold.sizes)
slot-known files plan texts First name hold named = (Some texts.first, subst (λ (o : Option (List ℕ)). HasBytes files o (Some texts.first)) named hold.first)
slot-known files plan texts Other name hold named = (texts.other, subst (λ (o : Option (List ℕ)). HasBytes files o texts.other) named hold.other)
slot-known files plan texts Bases name hold named = (texts.bases, subst (λ (o : Option (List ℕ)). HasBytes files o texts.bases) named hold.bases)

not-long : (files : FilesState) (name : List ℕ) (bytes : Option (List ℕ)) → HasBytes files (Some name) bytes → IfSome (files.contents name) (λ known. most_file_bytes < length known) → ⊥
not-long files name bytes has long =
    let known : most_file_bytes < length has.0 = subst (λ (o : Option (List ℕ)). IfSome o (λ known. most_file_bytes < length known)) has.1 long in
    absurd (omega (arith, known, has.2))

-- ---- the end of a run

sound-failed : (b : Bool) → b ≡ true → b ≡ false → ⊥
sound-failed b t f = true≢false (sym t ∙ f)

module _ (ended : ExitReason) (name : List ℕ) (out0 out1 said0 said1 : SinkState) (reported : ExitReason) (finishes : Finishes ended name out0 out1 said0 said1 reported)
    (sound : out1.failed ≡ false) (heard : said1.failed ≡ false) where
  flushed-well : Takes out0 out1 [] × (reported ≡ ended)
  flushed-well = elim finishes.flushed [
    | inl well ↦ (well.0, well.2)
    | inr lost ↦ absurd (sound-failed out1.failed lost.0.failed sound)
  ]

  -- the output was flushed
  flushed : Takes out0 out1 []
  flushed = flushed-well.0

  exit_reason-is : reported ≡ ended
  exit_reason-is = flushed-well.1

  status-of : status_of reported ≡ status_of ended
  status-of = ap status_of exit_reason-is

  -- its line was put
  told : Takes said0 said1 (line_of name ended)
  told = subst (λ (e : ExitReason). Takes said0 said1 (line_of name e)) exit_reason-is (by finishes.told)
    where
      by : Takes said0 said1 (line_of name reported) ⊎ FailsIn said0 said1 (line_of name reported) → Takes said0 said1 (line_of name reported)
      by (inl took) = took
      by (inr failed) = absurd (sound-failed said1.failed failed.failed heard)

  -- there is none if all was done
  quiet : ended ≡ exit_reason.Done → said1 ≡ said0
  quiet is = finishes.quiet (ap (λ (e : ExitReason). is_through e) (exit_reason-is ∙ is))

-- ---- a view

module _ (plan : RunPlan) (before reached after : Streams) (reported : ExitReason) (ended : ExitReason)
    (finishes : Finishes ended (name_meant plan ended) reached.output after.output reached.messages after.messages reported)
    (sound : after.output.failed ≡ false) (heard : after.messages.failed ≡ false) (had_memory : status_of reported ≡ 5 → ⊥)
    (only : reached ≡ record before { output = reached.output }) where
  out : Takes reached.output after.output []
  out = flushed ended (name_meant plan ended) reached.output after.output reached.messages after.messages reported finishes sound heard

  same-messages : reached.messages ≡ before.messages
  same-messages = ap (λ (s : Streams). s.messages) only

  line-told : Takes before.messages after.messages (line_of (name_meant plan ended) ended)
  line-told = subst (λ (m : SinkState). Takes m after.messages (line_of (name_meant plan ended) ended)) same-messages
      (told ended (name_meant plan ended) reached.output after.output reached.messages after.messages reported finishes sound heard)

  is-status : status_of reported ≡ status_of ended
  is-status = status-of ended (name_meant plan ended) reached.output after.output reached.messages after.messages reported finishes sound heard

  is-quiet : ended ≡ exit_reason.Done → after.messages ≡ before.messages
  is-quiet is = quiet ended (name_meant plan ended) reached.output after.output reached.messages after.messages reported finishes sound heard is ∙ same-messages

  -- the fault of files or of arguments is reported, and nothing was printed
  tells : (k : CliFault) → ended ≡ ending_of k → reached.output ≡ before.output → (said : Result (List ℕ) CliFault) → said ≡ Err k → PrintsJust plan said before after (status_of reported)
  tells k is same said e = subst (λ (r : Result (List ℕ) CliFault). PrintsJust plan r before after (status_of reported)) (sym e) (
    subst (λ (o : SinkState). Takes o after.output []) same out,
    subst (λ (e : ExitReason). Takes before.messages after.messages (line_of (name_meant plan e) e)) is line-told,
    is-status ∙ ap status_of is,
  )

  pub shows-just : (done : Result (Unit {0}) CliFault) (said : Result (List ℕ) CliFault) → Shows before.output reached.output done said
      → MatchResult done (λ _. ended ≡ exit_reason.Done) (λ fault. ended ≡ ending_of fault) → PrintsJust plan said before after (status_of reported)
  shows-just (Ok done) said shows is = subst (λ (r : Result (List ℕ) CliFault). PrintsJust plan r before after (status_of reported)) (sym shows.1) (
    then-flushed before.output reached.output after.output shows.0 shows.2 out,
    is-quiet is,
    is-status ∙ ap status_of is,
  )
  shows-just (Err fault.Output) said shows is = absurd (sound-failed after.output.failed (out.failed ∙ shows.2.failed) sound)
  shows-just (Err fault.Memory) said shows is = absurd (had_memory (is-status ∙ ap status_of is))
  shows-just (Err (fault.Words code)) said shows is = tells (fault.Words code) is shows.1 said shows.0
  shows-just (Err (fault.Damaged slot damage)) said shows is = tells (fault.Damaged slot damage) is shows.1 said shows.0

-- ---- the program

-- what a subcommand does: its view is printed
view-done : (run : Subcommand) (plan : RunPlan) (texts : Texts) (before after : Streams) (ended : ExitReason) (line : ℕ) → is_session run ≡ false
    → DoesWith run plan texts before after ended line → PrintsView plan texts before.output after.output ended × (after ≡ record before { output = after.output }) × (line ≡ 0)
view-done kind.Session plan texts before after ended line view does = absurd (true≢false view)
view-done run plan texts before after ended line view does = does

pub prints-just : (arguments : List (List ℕ)) (before after : World) (plan : RunPlan) (texts : Texts) (answer : Ended) → notice_of arguments ≡ None → IsPlan arguments plan
    → is_session plan.run ≡ false → Hold before.files plan texts → Runs arguments before after answer → IsSound after → (status_of answer.exit_reason ≡ 5 → ⊥)
    → PrintsJust plan (shown plan texts.sizes texts.first texts.other texts.bases plan.limit) before.streams after.streams (status_of answer.exit_reason)
prints-just arguments before after plan texts answer none is view hold ran sound had_memory = by
    (subst (λ (o : Option Notice). Serves o arguments before ran.reached ran.ended ran.name answer.line) none ran.serves)
  where
    Goal : Type 0
    Goal = PrintsJust plan (shown plan texts.sizes texts.first texts.other texts.bases plan.limit) before.streams after.streams (status_of answer.exit_reason)

    no-memory : ran.ended ≡ exit_reason.Memory → ⊥
    no-memory e = had_memory
        (status-of ran.ended ran.name ran.reached.streams.output after.streams.output ran.reached.streams.messages after.streams.messages answer.exit_reason ran.finishes sound.output sound.messages
        ∙ ap status_of e)

    of_plan : ran.name ≡ name_meant plan ran.ended → RunsPlan plan before ran.reached ran.ended answer.line → Goal
    of_plan named (inl read) =
        let are : AreTexts before.files plan read.texts = record { sizes = read.sizes; first = read.first; other = read.other; bases = read.bases } in
        let same : read.texts ≡ texts = texts-known before.files plan read.texts texts are hold in
        let does = view-done plan.run plan read.texts before.streams ran.reached.streams ran.ended answer.line view read.does in
        subst (λ (t : Texts). PrintsJust plan (shown plan t.sizes t.first t.other t.bases plan.limit) before.streams after.streams (status_of answer.exit_reason)) same
        (shows-just plan before.streams ran.reached.streams after.streams answer.exit_reason ran.ended
        (subst (λ (n : List ℕ). Finishes ran.ended n ran.reached.streams.output after.streams.output ran.reached.streams.messages after.streams.messages answer.exit_reason) named ran.finishes)
        sound.output sound.messages had_memory does.1 does.0.0
        (shown plan read.texts.sizes read.texts.first read.texts.other read.texts.bases plan.limit) does.0.1 does.0.2)
    of_plan named (inr stopped) = never stopped.failed stopped.files stopped.why
      where
        -- no file failed, none is too long, and there was memory
        never : (failed : Bool) → ran.reached.files ≡ after_one failed stopped.name (after_reading (names_before plan stopped.slot) before.files)
            → IsWhy before.files stopped.name stopped.slot failed ran.ended → Goal
        never true files why = absurd (sound-failed after.files.failed (ap (λ (f : FilesState). f.failed) (ran.files ∙ files)) sound.files)
        never false files (inl unreadable) = absurd (true≢false (sym unreadable.0))
        never false files (inr (inl memory)) = absurd (no-memory memory.1)
        never false files (inr (inr long)) =
            let has = slot-known before.files plan texts stopped.slot stopped.name hold stopped.named in
            absurd (not-long before.files stopped.name has.0 has.1 long.1)

    by : Serves None arguments before ran.reached ran.ended ran.name answer.line → Goal
    by (inl planned) =
        let same : planned.0 ≡ plan = one-plan arguments planned.0 plan planned.1 is in
        of_plan (planned.2 ∙ ap (λ (p : RunPlan). name_meant p ran.ended) same) (subst (λ (p : RunPlan). RunsPlan p before ran.reached ran.ended answer.line) same planned.3)
    by (inr (inl memory, same, no_line)) = absurd (no-memory memory)
    by (inr (inr wrong, same, no_line)) = absurd (wrong.1 plan is)
