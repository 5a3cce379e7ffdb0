-- Files that were read, and what a run does with them.
use Rattle.std.proofs.Common.{◌≡◌, ◌⊎◌, inl, inr, ◌<◌, ℕ, List, [], ◌∷◌, ◌++◌, length, false, Option, None, Some, Result, Ok, Err, IfOk, IfErr, IfSome, OnOk, refl, sym, ap, ◌∙◌, subst}
use Rattle.std.proofs.lemmas.List.Elements.{All-nil, All-cons, All-append}
use Rattle.std.specs.List.{All}
use Rattle.std.specs.Option.{option_to_list}
use Rattle.std.specs.Prelude.{Bool, true, MatchResult, ◌==◌, if◌then◌else◌}
use Rattle.iv_bytes.specs.Sinks.{SinkState, Takes, FailsIn, waiting}
use Rattle.iv_bytes.specs.Sources.{SourceState}
use Rattle.iv_lines.specs.declared.fault.Fault.{Fault}
use Rattle.iv_lines.specs.declared.fault.Fault.TheVariants as refused
use Rattle.iv_workspace.specs.States.{State}
use Rattle.iv_session.specs.Endings.{Ran}
use Rattle.iv_session.specs.Scripts.{Done}
use Rattle.iv_session.specs.Stops.{Stopped}
use Rattle.iv_session.specs.Streams.{Streams}
use Rattle.iv_session.specs.declared.script.RunFault.{RunFault}
use Rattle.iv_session.specs.declared.script.Summary.{Summary}
use Rattle.iv_args.specs.Notices.{notice_of}
use Rattle.iv_args.specs.Texts.{notice_text}
use Rattle.iv_args.specs.Arguments.{RunPlan, IsPlan, file_of, is_session}
use Rattle.iv_args.specs.declared.subcommand.Notice.{Notice}
use Rattle.iv_args.specs.declared.subcommand.Subcommand.{Subcommand}
use Rattle.iv_args.specs.declared.subcommand.Subcommand.TheVariants as kind
use Rattle.iv_args.specs.declared.plan.Slot.{Slot}
use Rattle.iv_args.specs.declared.plan.Slot.TheVariants.{First, Other, Bases}
use Rattle.iv_run.specs.Loading.{Parsed, parsed}
use Rattle.iv_places.specs.declared.places.HeldColumns.{HeldColumns}
use Rattle.iv_places.specs.declared.places.HeldColumns.TheVariants as held
use Rattle.iv_text.specs.BedFile.{Bed}
use Rattle.iv_fasta.specs.FastaReading.{Wanted}
use Rattle.iv_run.specs.RunFiles.{AreAskedFor, AreOf, FilesRead, Reports, TakesFasta, TakesFirst, TakesSecond, report_by}
use Rattle.iv_run.specs.declared.exit_reason.CliFault.{CliFault}
use Rattle.iv_run.specs.declared.exit_reason.FileFault.{FileFault}
use Rattle.iv_run.specs.declared.exit_reason.FileFault.TheVariants as file
use Rattle.iv_run.specs.ExitReasons.{ending_after, ending_of_file, ending_of_arguments, is_through, name_meant}
use Rattle.iv_cli.specs.ScriptEndings.{ending_of_cause, ending_of_run}
use Rattle.iv_run.specs.declared.exit_reason.ExitReason.{ExitReason}
use Rattle.iv_run.specs.declared.exit_reason.ExitReason.TheVariants as exit_reason
use Rattle.iv_program.specs.Files.{FilesState, IsText, after_one, after_reading}
use Rattle.iv_program.specs.Limits.{most_file_bytes}
use Rattle.iv_program.specs.Program.{Finishes, Runs, Serves, world}
use Rattle.iv_program.specs.Runs.{World, DoesWith, HasRead, HasNotRead}
use Rattle.iv_program.specs.Inside.Files.{AreRead, HasText, IsWhy, ReadsNamed, StopsAt, StopsFile, names_of}
use Rattle.iv_program.specs.Inside.Runs.{DoesOne, EndsRun, Flushes, HasFiles, HasTexts, ReadsAll, RunsPlan, StopsPlan, stopped_at}
use Rattle.iv_program.specs.Texts.{Texts, AreTexts, IsTextIfNamed, names_before}
use Rattle.iv_program.specs.declared.program.Ended.{Ended}

-- ---- files that were read

-- reading files leaves what they hold
pub reading-contents : (names : List (List ℕ)) (files : FilesState) → (after_reading names files).contents ≡ files.contents
reading-contents [] files = refl
reading-contents (name ∷ names) files = reading-contents names (after_one false name files)

-- some files are read, and then some more
reading-append : (names more : List (List ℕ)) (files : FilesState) → after_reading (names ++ more) files ≡ after_reading more (after_reading names files)
reading-append [] more files = refl
reading-append (name ∷ names) more files = reading-append names more (after_one false name files)

contents-back : (names : List (List ℕ)) (a b : FilesState) → b ≡ after_reading names a → b.contents ≡ a.contents
contents-back names a b is = ap (λ (f : FilesState). f.contents) is ∙ reading-contents names a

text-back : (names : List (List ℕ)) (a b : FilesState) (name text : List ℕ) → b ≡ after_reading names a → IsText b name text → IsText a name text
text-back names a b name text is has =
    (subst (λ (c : List ℕ → Option (List ℕ)). IfSome (c name) (λ known. known ≡ text)) (contents-back names a b is) has.0, has.1)

named-back : (names : List (List ℕ)) (a b : FilesState) (name text : Option (List ℕ)) → b ≡ after_reading names a → IsTextIfNamed b name text → IsTextIfNamed a name text
named-back names a b None text is has = has
named-back names a b (Some name) None is has = absurd has
named-back names a b (Some name) (Some text) is has = text-back names a b name text is has

-- the one of this name has a text, if there is one
named-has : (files : FilesState) (name text : Option (List ℕ)) → IsTextIfNamed files name text → All (HasText files) (option_to_list name)
named-has files None text has = All-nil (HasText files)
named-has files (Some name) None has = absurd has
named-has files (Some name) (Some text) has = All-cons (HasText files) name [] (text, has) (All-nil (HasText files))

pub none-read : (files : FilesState) → AreRead [] files files
none-read files = record { have = All-nil (HasText files); after = refl }

-- one more of them was, if it is named
reads-more : (names : List (List ℕ)) {f0 f1 f2 : FilesState} {name text : Option (List ℕ)} → AreRead names f0 f1 → ReadsNamed f1 name text f2 → AreRead (names ++ option_to_list name) f0 f2
reads-more names {f0} {f1} {f2} {name} {text} before read = record {
  have = All-append (HasText f0) names (option_to_list name) before.have (named-has f0 name text (named-back names f0 f1 name text before.after read.is_text));
  after = read.after ∙ ap (after_reading (option_to_list name)) before.after ∙ sym (reading-append names (option_to_list name) f0);
}

-- the file of a slot was not read to its end, and those before it were
pub stops-at : (plan : RunPlan) (known : Slot) (name : List ℕ) {f0 f1 : FilesState} (f2 : FilesState) (slot : Slot) (why : FileFault) → slot ≡ known → file_of plan known ≡ Some name
    → AreRead (names_before plan known) f0 f1 → StopsFile f1 name why f2 → StopsAt plan f0 f2 slot why
stops-at plan known name {f0} {f1} f2 slot why is named before stops =
    subst (λ (s : Slot). StopsAt plan f0 f2 s why) (sym is) (record {
      name = name;
      named = named;
      before = before.have;
      stops = subst (λ (f : FilesState). StopsFile f name why f2) before.after stops;
    })

-- the files of a plan were read in the order of their slots
module _ (plan : RunPlan) {f0 f1 : FilesState} {sizes : List ℕ} (read_sizes : ReadsNamed f0 (Some plan.sizes) (Some sizes) f1) where
  pub before-first : AreRead (names_before plan First) f0 f1
  before-first = reads-more [] (none-read f0) read_sizes

  module _ {f2 : FilesState} {first : List ℕ} (read_first : ReadsNamed f1 (Some plan.first) (Some first) f2) where
    pub before-other : AreRead (names_before plan Other) f0 f2
    before-other = reads-more (names_before plan First) before-first read_first

    module _ {f3 : FilesState} {other : Option (List ℕ)} (read_other : ReadsNamed f2 plan.other other f3) where
      pub before-bases : AreRead (names_before plan Bases) f0 f3
      before-bases = reads-more (names_before plan Other) before-other read_other

      -- and at last the FASTA file
      module _ {f4 : FilesState} {bases : Option (List ℕ)} (read_bases : ReadsNamed f3 plan.bases bases f4) where
        pub all-read : f4 ≡ after_reading (names_of plan) f0
        all-read = (reads-more (names_before plan Bases) before-bases read_bases).after

        abbrev pub plan-texts : Texts
        plan-texts = record { sizes = sizes; first = first; other = other; bases = bases }

        pub all-texts : AreTexts f0 plan plan-texts
        all-texts = record {
          sizes = read_sizes.is_text;
          first = named-back (names_before plan First) f0 f1 (Some plan.first) (Some first) before-first.after read_first.is_text;
          other = named-back (names_before plan Other) f0 f2 plan.other other before-other.after read_other.is_text;
          bases = named-back (names_before plan Bases) f0 f3 plan.bases bases before-bases.after read_bases.is_text;
        }

-- what reading one file answers, with its slot
pub in-slot-ok : {T P Q : Type 0} (read : Result T FileFault) (answer : Result T (Slot × FileFault)) → IfOk answer (λ value. read ≡ Ok value) → OnOk read P → (P → Q) → OnOk answer Q
in-slot-ok {T} {P} {Q} read (Ok value) is on leads = leads (subst (λ (r : Result T FileFault). OnOk r P) is on)
in-slot-ok read (Err why) is on leads = tt

pub in-slot-err : {T : Type 0} {P Q : FileFault → Type 0} (slot : Slot) (read : Result T FileFault) (answer : Result T (Slot × FileFault))
    → IfErr answer (λ why. (why.0 ≡ slot) × (read ≡ Err why.1)) → IfErr read P → ((why : FileFault) → P why → Q why) → IfErr answer (λ why. (why.0 ≡ slot) × Q why.1)
in-slot-err slot read (Ok value) is err leads = tt
in-slot-err {T} {P} {Q} slot read (Err why) is err leads = (is.0, leads why.1 (subst (λ (r : Result T FileFault). IfErr r P) is.1 err))

-- what is reported of files that were read for a plan
module _ (plan : RunPlan) (r0 r1 r2 r3 : FilesRead) (width : r0.width ≡ plan.width) (limit : r0.files.limit ≡ plan.limit) {first : List ℕ} {other bases : Option (List ℕ)} {wanted : Wanted}
    (takes_first : TakesFirst first r0 r1) (takes_second : TakesSecond other r1 r2) (takes_bases : TakesFasta wanted bases r2 r3) where
  width_is : r3.width ≡ plan.width
  width_is = takes_bases.plan.width ∙ takes_second.plan.width ∙ takes_first.plan.width ∙ width

  pub limit_is : r3.files.limit ≡ plan.limit
  limit_is = takes_bases.plan.limit ∙ takes_second.plan.limit ∙ takes_first.plan.limit ∙ limit

  columns_are : r3.columns ≡ r0.columns
  columns_are = takes_bases.plan.columns ∙ takes_second.plan.columns ∙ takes_first.plan.columns

  pub has-files : (for_rows : Bool) (sizes : List ℕ) (said : Result Parsed CliFault) → AreOf None sizes [] None None r0 → AreAskedFor for_rows r2.files.first wanted → said ≡ report_by r3.files r3.damage
      → HasFiles r0.columns for_rows plan (record { sizes = sizes; first = first; other = other; bases = bases }) said
  has-files for_rows sizes said begun asked is = record {
    wanted = wanted;
    has =
        subst (λ (r : Result Parsed CliFault). Reports r0.columns wanted r (parsed plan.width sizes first other bases plan.limit)) (sym is)
        (subst (λ (k : HeldColumns). Reports k wanted (report_by r3.files r3.damage) (parsed plan.width sizes first other bases plan.limit)) columns_are
        (subst (λ (n : ℕ). Reports r3.columns wanted (report_by r3.files r3.damage) (parsed plan.width sizes first other bases n)) limit_is
        (subst (λ (w : ℕ). Reports r3.columns wanted (report_by r3.files r3.damage) (parsed w sizes first other bases r3.files.limit)) width_is
        (takes_bases.are sizes first other (takes_second.are sizes first (takes_first.are sizes begun))))));
    asked = subst (λ (r : Result Parsed CliFault). IfOk r (λ f. AreAskedFor for_rows f.first wanted)) (sym is) (by r3.damage);
  }
    where
      by : (damage : Option CliFault) → IfOk (report_by r3.files damage) (λ f. AreAskedFor for_rows f.first wanted)
      by None = subst (λ (b : Bed). AreAskedFor for_rows b wanted) (sym takes_bases.first) asked
      by (Some k) = tt

  pub files-limit : (said : Result Parsed CliFault) → said ≡ report_by r3.files r3.damage → IfOk said (λ f. f.limit ≡ plan.limit)
  files-limit said is = subst (λ (r : Result Parsed CliFault). IfOk r (λ f. f.limit ≡ plan.limit)) (sym is) (by r3.damage)
    where
      by : (damage : Option CliFault) → IfOk (report_by r3.files damage) (λ f. f.limit ≡ plan.limit)
      by None = limit_is
      by (Some k) = tt

-- files with all bases
pub all-bases : (plan : RunPlan) (texts : Texts) (files : Result Parsed CliFault) → HasFiles held.All false plan texts files → HasTexts held.All None plan texts files
all-bases plan texts (Ok files) h = subst (λ (w : Wanted). HasTexts held.All w plan texts (Ok files)) h.asked h.has
all-bases plan texts (Err k) h = h.has

-- ---- scripts

pub ran-of : (old new : State) (before after : Streams) (lines most : ℕ) (r : Result Summary RunFault)
    → IfOk r (λ summary. Done old new before after lines most summary.lines summary.refused)
    → IfErr r (λ why. Stopped old new before after lines most why.line why.cause)
    → Ran old new before after lines most r
ran-of old new before after lines most (Ok summary) done stopped = done
ran-of old new before after lines most (Err why) done stopped = stopped

-- how a script that was run ends
pub ends-of : (run : Result Summary RunFault) (ended : ExitReason) (line : ℕ) → ended ≡ ending_of_run run → line ≡ stopped_at run
    → MatchResult run (λ summary. (ended ≡ (if summary.refused == 0 then exit_reason.Done else exit_reason.Refused)) × (line ≡ 0))
    (λ stopped. (ended ≡ ending_of_cause stopped.cause) × (line ≡ stopped.line))
ends-of (Ok summary) ended line is at = (is, at)
ends-of (Err stopped) ended line is at = (is, at)

-- ---- plans

-- what is done with the texts of a plan, by its kind
does-by : (run : Subcommand) (plan : RunPlan) (texts : Texts) (before after : Streams) (ended : ExitReason) (line : ℕ)
    → DoesOne (is_session run) plan texts before after ended line → DoesWith run plan texts before after ended line
does-by kind.Session plan texts before after ended line does = does
does-by run plan texts before after ended line does = does

module _ (plan : RunPlan) (before after : World) (ended : ExitReason) (line : ℕ) where
  -- all files were read
  read-plan : ReadsAll plan before after ended line → HasRead plan before after ended line
  read-plan read = record {
    texts = read.texts;
    sizes = read.are.sizes;
    first = read.are.first;
    other = read.are.other;
    bases = read.are.bases;
    files = read.files;
    does = does-by plan.run plan read.texts before.streams after.streams ended line read.does;
  }

  -- one was not
  stopped-plan : StopsPlan plan before after ended line → HasNotRead plan before after ended line
  stopped-plan stopped = by stopped.fault stopped.stops.stops stopped.ended_is
    where
      made : (failed : Bool) → after.files ≡ after_one failed stopped.stops.name (after_reading (names_before plan stopped.slot) before.files)
          → IsWhy before.files stopped.stops.name stopped.slot failed ended → HasNotRead plan before after ended line
      made failed files why = record {
        slot = stopped.slot;
        name = stopped.stops.name;
        named = stopped.stops.named;
        earlier = stopped.stops.before;
        failed = failed;
        files = files;
        why = why;
        nothing = (stopped.same, stopped.no_line);
      }

      by : (why : FileFault) → StopsFile (after_reading (names_before plan stopped.slot) before.files) stopped.stops.name why after.files
          → ended ≡ ending_of_file stopped.slot why → HasNotRead plan before after ended line
      by file.Input stops e = made true stops (inl (refl, e))
      by file.Memory stops e = made false stops (inr (inl (refl, e)))
      by file.TooLong stops e = made false stops.1 (inr (inr (
        refl,
        subst (λ (c : List ℕ → Option (List ℕ)). IfSome (c stopped.stops.name) (λ known. most_file_bytes < length known))
            (reading-contents (names_before plan stopped.slot) before.files) stops.0,
        e,
      )))

-- ---- the program

same-both : (b : Bool) (ended : ExitReason) → (if b then ended else ended) ≡ ended
same-both true ended = refl
same-both false ended = refl

-- how a run ends, by what its flush left
pub finished : (ended : ExitReason) (name : List ℕ) (out0 out1 said0 said1 : SinkState) (reported : ExitReason) → EndsRun ended name out0 out1 said0 said1 reported
    → Finishes ended name out0 out1 said0 said1 reported
finished ended name out0 out1 said0 said1 reported ends = record { flushed = by ends.flushed ends.flush ends.reported_is; told = ends.told; quiet = ends.quiet }
  where
    by : (flushed : Bool) → Flushes flushed out0 out1 → reported ≡ ending_after flushed ended
        → (Takes out0 out1 [] × (waiting out1 ≡ []) × (reported ≡ ended)) ⊎ (FailsIn out0 out1 [] × (reported ≡ (if is_through ended then exit_reason.Output else ended)))
    by true flush is = inl (flush.0, flush.1, is ∙ same-both (is_through ended) ended)
    by false flush is = inr (flush, is)

module _ (arguments : List (List ℕ)) (answer : Ended) where
  pub gave-notice : (notice : Notice) (files : FilesState) (input : SourceState) (o0 o1 o2 s0 s1 : SinkState) (ended : ExitReason) → notice_of arguments ≡ Some notice
      → ((ended ≡ exit_reason.Done) × Takes o0 o1 (notice_text notice)) ⊎ ((ended ≡ exit_reason.Output) × FailsIn o0 o1 (notice_text notice))
      → EndsRun ended [] o1 o2 s0 s1 answer.exit_reason → answer.line ≡ 0
      → Runs arguments (world files input o0 s0) (world files input o2 s1) answer
  gave-notice notice files input o0 o1 o2 s0 s1 ended is gives finishes no_line = record {
    reached = world files input o1 s0;
    ended = ended;
    name = [];
    serves = subst (λ (o : Option Notice). Serves o arguments (world files input o0 s0) (world files input o1 s0) ended [] answer.line) (sym is) (gives, refl, no_line);
    finishes = finished ended [] o1 o2 s0 s1 answer.exit_reason finishes;
    files = refl;
    input = refl;
  }

  pub ran-plan : (plan : RunPlan) (f0 f1 : FilesState) (i0 i1 : SourceState) (o0 o1 o2 s0 s1 s2 : SinkState) (ended : ExitReason) (line : ℕ) (name : List ℕ) → notice_of arguments ≡ None
      → IsPlan arguments plan → ReadsAll plan (world f0 i0 o0 s0) (world f1 i1 o1 s1) ended line ⊎ StopsPlan plan (world f0 i0 o0 s0) (world f1 i1 o1 s1) ended line
      → name ≡ name_meant plan ended → EndsRun ended name o1 o2 s1 s2 answer.exit_reason → answer.line ≡ line
      → Runs arguments (world f0 i0 o0 s0) (world f1 i1 o2 s2) answer
  ran-plan plan f0 f1 i0 i1 o0 o1 o2 s0 s1 s2 ended line name none is runs named finishes same_line = record {
    reached = world f1 i1 o1 s1;
    ended = ended;
    name = name;
    serves = subst (λ (o : Option Notice). Serves o arguments (world f0 i0 o0 s0) (world f1 i1 o1 s1) ended name answer.line) (sym none)
        (inl (plan, is, named, subst (λ (n : ℕ). RunsPlan plan (world f0 i0 o0 s0) (world f1 i1 o1 s1) ended n) (sym same_line) (by runs)));
    finishes = finished ended name o1 o2 s1 s2 answer.exit_reason finishes;
    files = refl;
    input = refl;
  }
    where
      by : ReadsAll plan (world f0 i0 o0 s0) (world f1 i1 o1 s1) ended line ⊎ StopsPlan plan (world f0 i0 o0 s0) (world f1 i1 o1 s1) ended line
          → RunsPlan plan (world f0 i0 o0 s0) (world f1 i1 o1 s1) ended line
      by (inl read) = inl (read-plan plan (world f0 i0 o0 s0) (world f1 i1 o1 s1) ended line read)
      by (inr stopped) = inr (stopped-plan plan (world f0 i0 o0 s0) (world f1 i1 o1 s1) ended line stopped)

  pub had-no-plan : (why : Fault) (files : FilesState) (input : SourceState) (o0 o1 s0 s1 : SinkState) (ended : ExitReason) → notice_of arguments ≡ None
      → (why ≡ refused.NoMemory) ⊎ ((why ≡ refused.Words) × ((plan : RunPlan) → ¬ IsPlan arguments plan)) → ended ≡ ending_of_arguments why
      → EndsRun ended [] o0 o1 s0 s1 answer.exit_reason → answer.line ≡ 0 → Runs arguments (world files input o0 s0) (world files input o1 s1) answer
  had-no-plan why files input o0 o1 s0 s1 ended none is ended_is finishes no_line = record {
    reached = world files input o0 s0;
    ended = ended;
    name = [];
    serves = subst (λ (o : Option Notice). Serves o arguments (world files input o0 s0) (world files input o0 s0) ended [] answer.line) (sym none) (inr (by is, refl, no_line));
    finishes = finished ended [] o0 o1 s0 s1 answer.exit_reason finishes;
    files = refl;
    input = refl;
  }
    where
      by : (why ≡ refused.NoMemory) ⊎ ((why ≡ refused.Words) × ((plan : RunPlan) → ¬ IsPlan arguments plan))
          → (ended ≡ exit_reason.Memory) ⊎ ((ended ≡ exit_reason.Words refused.Words) × ((plan : RunPlan) → ¬ IsPlan arguments plan))
      by (inl memory) = inl (ended_is ∙ ap ending_of_arguments memory)
      by (inr wrong) = inr (ended_is ∙ ap ending_of_arguments wrong.0, wrong.1)
