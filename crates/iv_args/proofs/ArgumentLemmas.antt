-- The arguments of a run: those that are a plan, and those that are none.
use Rattle.std.proofs.Common.{◌≡◌, ℕ, ◌≤◌, true, List, [], ◌∷◌, ◌++◌, Option, Some, None, length, refl, sym, ap, ◌∙◌, subst, arith, ◌⊎◌, inl, inr, Result, Ok, Err}
use Rattle.std.specs.Prelude.{◌≢◌, codes, if◌then◌else◌}
use Rattle.std.specs.Option.{is_some, option_to_list}
use Rattle.std.proofs.lemmas.List.Elements.{All-nil, All-cons, recursion_from_All}
use Rattle.std.proofs.lemmas.Bool.{false≢true}
use Rattle.std.proofs.lemmas.Option.{none-some, same_Some}
use Rattle.iv_lines.specs.declared.fault.Fault.{Fault}
use Rattle.iv_lines.specs.declared.fault.Fault.TheVariants as fault
use Rattle.iv_view.specs.Arguments.{read_arguments}
use Rattle.iv_view.specs.declared.view.View.{View}
use Rattle.iv_args.specs.declared.subcommand.Subcommand.{Subcommand}
use Rattle.iv_args.specs.declared.subcommand.Subcommand.TheVariants as kind
use Rattle.iv_args.specs.declared.subcommand.RunOption.{RunOption}
use Rattle.iv_args.specs.declared.subcommand.RunOption.TheVariants as option
use Rattle.iv_args.specs.Arguments.{RunPlan, IsPlan, IsOfKind, SplitArguments, file_options, split_arguments, run_of, is_session, values_of}
use Rattle.iv_args.specs.Inside.Drafts.{PartialPlan, AreViewArguments, begun_by, drafted, has_needed_files, lead, limit_said, are_understood, are_view_arguments, width_said, Makes}
use Rattle.iv_args.proofs.DraftLemmas.{listed, Gives, drafted-gives, drafted-never}

-- nothing is given by the first argument
begun-says : (run : Subcommand) (argument : List ℕ) (k : RunOption) → listed (begun_by run argument) k ≡ []
begun-says run argument option.Sizes = refl
begun-says run argument k = refl

-- the arguments of a view begin with that of the run, except in a session
lead-is : (run : Subcommand) (argument : List ℕ) (arguments : List (List ℕ)) → lead run argument ++ arguments ≡ (if is_session run then arguments else argument ∷ arguments)
lead-is kind.Session argument arguments = refl
lead-is run argument arguments = refl

-- arguments of a view that are accepted have no fault that is seen without the files
understood-of : (r : Result View Fault) → are_understood r ≡ true → r ≢ Err fault.Words
understood-of r h is = false≢true (sym (ap are_understood is) ∙ h)

understood-by : (r : Result View Fault) → r ≢ Err fault.Words → are_understood r ≡ true
understood-by (Ok view) h = refl
understood-by (Err fault.Words) h = absurd (h refl)
understood-by (Err why) h = refl

accepted-of : (run : Subcommand) (arguments : List (List ℕ)) → are_view_arguments run arguments ≡ true → AreViewArguments run arguments
accepted-of kind.Session [] h = refl
accepted-of kind.Session (argument ∷ arguments) h = absurd (false≢true h)
accepted-of run arguments h = understood-of (read_arguments 6 true true arguments) h

accepted-by : (run : Subcommand) (arguments : List (List ℕ)) → AreViewArguments run arguments → are_view_arguments run arguments ≡ true
accepted-by kind.Session arguments h = ap (are_view_arguments kind.Session) h
accepted-by run arguments h = understood-by (read_arguments 6 true true arguments) h

-- a width is given by one value at most
pub width-once : (values : List (List ℕ)) (width : ℕ) → width_said values ≡ Some width → length values ≤ 1
width-once [] width h = omega arith
width-once (value ∷ []) width h = omega arith
width-once (value ∷ next ∷ values) width h = absurd (none-some width h)

-- a limit too
pub limit-once : (values : List (List ℕ)) (limit : ℕ) → limit_said values ≡ Some limit → length values ≤ 1
limit-once [] limit h = omega arith
limit-once (value ∷ []) limit h = omega arith
limit-once (value ∷ next ∷ values) limit h = absurd (none-some limit h)

-- a value that may be left out is one at most
pub few-listed : (o : Option (List ℕ)) → length (option_to_list o) ≤ 1
few-listed None = omega arith
few-listed (Some value) = omega arith

-- each option is given once at most in a plan
pub at-most-one : (arguments : List (List ℕ)) (plan : RunPlan) (is : IsPlan arguments plan) (k : RunOption) → length (values_of k is.parts.settings) ≤ 1
at-most-one arguments plan is option.Sizes = omega (arith, ap (λ (l : List (List ℕ)). length l) is.sizes)
at-most-one arguments plan is option.First = omega (arith, ap (λ (l : List (List ℕ)). length l) is.first)
at-most-one arguments plan is option.Other = omega (arith, ap (λ (l : List (List ℕ)). length l) is.other, few-listed plan.other)
at-most-one arguments plan is option.Bases = omega (arith, ap (λ (l : List (List ℕ)). length l) is.bases, few-listed plan.bases)
at-most-one arguments plan is option.Width = width-once (values_of option.Width is.parts.settings) plan.width is.width
at-most-one arguments plan is option.Limit = limit-once (values_of option.Limit is.parts.settings) plan.limit is.limit

-- two values that may be left out are the same if their lists are
pub said-same : (o p : Option (List ℕ)) → option_to_list o ≡ option_to_list p → o ≡ p
said-same None None e = refl
said-same (Some x) (Some y) e = cc e
said-same o p e = absurd (cc e)

-- ---- what a kind of run asks for

-- an option is given
abbrev IsGiven : SplitArguments → List ℕ × RunOption → Type 0
IsGiven parts file = values_of file.1 parts.settings ≢ []

one-given : (values : List (List ℕ)) (value : List ℕ) → values ≡ value ∷ [] → values ≢ []
one-given values value is none = cc (is, none)

some-given : (o : Option (List ℕ)) (values : List (List ℕ)) → values ≡ option_to_list o → is_some o ≡ true → values ≢ []
some-given None values is some none = absurd (false≢true some)
some-given (Some value) values is some none = one-given values value is none

given-some : (o : Option (List ℕ)) → (option_to_list o ≡ [] → ⊥) → is_some o ≡ true
given-some None given = absurd (given refl)
given-some (Some value) given = refl

pub of-kind : (run : Subcommand) (argument : List ℕ) (parts : SplitArguments) (view : List (List ℕ)) (first : List ℕ) (other bases : Option (List ℕ))
    → values_of option.First parts.settings ≡ first ∷ [] → values_of option.Other parts.settings ≡ option_to_list other
    → values_of option.Bases parts.settings ≡ option_to_list bases → view ≡ (if is_session run then parts.view else argument ∷ parts.view)
    → has_needed_files run other bases ≡ true → AreViewArguments run view → IsOfKind run argument parts view
of-kind kind.Session argument parts view first other bases f o b is needed accepted = (sym is ∙ accepted, accepted)
of-kind kind.Intersect argument parts view first other bases f o b is needed accepted = (
  is,
  accepted,
  All-cons (IsGiven parts) (codes "-a", option.First) ((codes "-b", option.Other) ∷ []) (one-given _ first f)
      (All-cons (IsGiven parts) (codes "-b", option.Other) [] (some-given other _ o needed) (All-nil (IsGiven parts))),
)
of-kind kind.Subtract argument parts view first other bases f o b is needed accepted = (
  is,
  accepted,
  All-cons (IsGiven parts) (codes "-a", option.First) ((codes "-b", option.Other) ∷ []) (one-given _ first f)
      (All-cons (IsGiven parts) (codes "-b", option.Other) [] (some-given other _ o needed) (All-nil (IsGiven parts))),
)
of-kind kind.Getfasta argument parts view first other bases f o b is needed accepted = (
  is,
  accepted,
  All-cons (IsGiven parts) (codes "-bed", option.First) ((codes "-fi", option.Bases) ∷ []) (one-given _ first f)
      (All-cons (IsGiven parts) (codes "-fi", option.Bases) [] (some-given bases _ b needed) (All-nil (IsGiven parts))),
)
of-kind run argument parts view first other bases f o b is needed accepted = (
  is,
  accepted,
  All-cons (IsGiven parts) (codes "-i", option.First) [] (one-given _ first f) (All-nil (IsGiven parts)),
)

-- what the arguments of a plan are for its kind
pub record AreForKind (run : Subcommand) (argument : List ℕ) (parts : SplitArguments) (view : List (List ℕ)) (other bases : Option (List ℕ)) : Type 0 where
  pub view_is : view ≡ (if is_session run then parts.view else argument ∷ parts.view)
  pub needed : has_needed_files run other bases ≡ true
  pub accepted : AreViewArguments run view

pub for-kind : (run : Subcommand) (argument : List ℕ) (parts : SplitArguments) (view : List (List ℕ)) (other bases : Option (List ℕ))
    → values_of option.Other parts.settings ≡ option_to_list other → values_of option.Bases parts.settings ≡ option_to_list bases
    → IsOfKind run argument parts view → AreForKind run argument parts view other bases
for-kind kind.Session argument parts view other bases o b is = record { view_is = is.1 ∙ sym is.0; needed = refl; accepted = is.1 }
for-kind kind.Intersect argument parts view other bases o b is = record {
  view_is = is.0;
  needed = given-some other (λ none. (recursion_from_All (IsGiven parts) (file_options kind.Intersect) is.2).1.0 (o ∙ none));
  accepted = is.1;
}
for-kind kind.Subtract argument parts view other bases o b is = record {
  view_is = is.0;
  needed = given-some other (λ none. (recursion_from_All (IsGiven parts) (file_options kind.Subtract) is.2).1.0 (o ∙ none));
  accepted = is.1;
}
for-kind kind.Getfasta argument parts view other bases o b is = record {
  view_is = is.0;
  needed = given-some bases (λ none. (recursion_from_All (IsGiven parts) (file_options kind.Getfasta) is.2).1.0 (b ∙ none));
  accepted = is.1;
}
for-kind run argument parts view other bases o b is = record { view_is = is.0; needed = refl; accepted = is.1 }

module _ (argument : List ℕ) (rest : List (List ℕ)) (run : Subcommand) (is_run : Some run ≡ run_of argument) where
  -- ---- arguments that are a plan

  -- the values of the settings are what was read
  values-said : (said : PartialPlan) (g : Gives (split_arguments run rest) (begun_by run argument) said) (k : RunOption) → values_of k g.parts.settings ≡ listed said k
  values-said said g k = sym (g.values k ∙ ap (λ (l : List (List ℕ)). l ++ values_of k g.parts.settings) (begun-says run argument k))

  pub accept : (said : PartialPlan) (plan : RunPlan) → drafted run rest (begun_by run argument) ≡ Some said → Makes run said plan → IsPlan (argument ∷ rest) plan
  accept said plan h made =
      let g = drafted-gives run rest (begun_by run argument) said h in
      let first = values-said said g option.First ∙ ap option_to_list made.first in
      let other = values-said said g option.Other ∙ ap option_to_list made.other in
      let bases = values-said said g option.Bases ∙ ap option_to_list made.bases in
      record {
        argument = argument;
        rest = rest;
        parts = g.parts;
        are = refl;
        run = sym is_run ∙ ap Some (sym made.run_is);
        splitting = ap (λ (r : Subcommand). split_arguments r rest) made.run_is ∙ g.are;
        sizes = values-said said g option.Sizes ∙ ap option_to_list made.sizes;
        first = first;
        other = other;
        bases = bases;
        width = ap width_said (values-said said g option.Width) ∙ made.width;
        limit = ap limit_said (values-said said g option.Limit) ∙ made.limit;
        kind = of-kind plan.run argument g.parts plan.view plan.first plan.other plan.bases first other bases
            (sym made.view ∙ g.view ∙ ap (λ (r : Subcommand). lead r argument ++ g.parts.view) (sym made.run_is) ∙ lead-is plan.run argument g.parts.view)
            (ap (λ (r : Subcommand). has_needed_files r plan.other plan.bases) made.run_is ∙ ap (λ (o : Option (List ℕ)). has_needed_files run o plan.bases) (sym made.other)
            ∙ ap (λ (o : Option (List ℕ)). has_needed_files run said.other o) (sym made.bases) ∙ made.needed)
            (accepted-of plan.run plan.view (ap (λ (r : Subcommand). are_view_arguments r plan.view) made.run_is ∙ ap (are_view_arguments run) (sym made.view) ∙ made.understood));
      }

  pub accept-from : (first said : PartialPlan) (plan : RunPlan) → first ≡ begun_by run argument → drafted run rest first ≡ Some said → Makes run said plan
      → IsPlan (argument ∷ rest) plan
  accept-from first said plan begun h made = accept said plan (ap (drafted run rest) (sym begun) ∙ h) made

  -- ---- arguments that are none

  -- what follows from a plan of the arguments about their kind and their parts
  record IsOf (plan : RunPlan) (is : IsPlan (argument ∷ rest) plan) : Type 0 where
    run_is : plan.run ≡ run
    argument_is : is.argument ≡ argument
    splitting : split_arguments run rest ≡ Some is.parts

  is-of : (plan : RunPlan) (is : IsPlan (argument ∷ rest) plan) → IsOf plan is
  is-of plan is =
      let same_argument : is.argument ≡ argument = cc is.are in
      let same_rest : is.rest ≡ rest = cc is.are in
      let same_run : plan.run ≡ run = same_Some plan.run run (sym is.run ∙ ap run_of same_argument ∙ sym is_run) in
      record {
        run_is = same_run;
        argument_is = same_argument;
        splitting = ap (λ (r : Subcommand). split_arguments r rest) (sym same_run) ∙ ap (split_arguments plan.run) (sym same_rest) ∙ is.splitting;
      }

  pub refuse-taken : drafted run rest (begun_by run argument) ≡ None → (plan : RunPlan) → ¬ IsPlan (argument ∷ rest) plan
  refuse-taken h plan is =
      drafted-never run rest (begun_by run argument) h is.parts (is-of plan is).splitting
      (λ k. subst (λ (l : List (List ℕ)). length (l ++ values_of k is.parts.settings) ≤ 1) (sym (begun-says run argument k)) (at-most-one (argument ∷ rest) plan is k))

  -- a plan of the arguments is made of what was read
  makes : (said : PartialPlan) (plan : RunPlan) → drafted run rest (begun_by run argument) ≡ Some said → IsPlan (argument ∷ rest) plan → Makes run said plan
  makes said plan h is =
      let g = drafted-gives run rest (begun_by run argument) said h in
      let of = is-of plan is in
      let asked = for-kind plan.run is.argument is.parts plan.view plan.other plan.bases is.other is.bases is.kind in
      let parts : g.parts ≡ is.parts = same_Some g.parts is.parts (sym g.are ∙ of.splitting) in
      let at : (k : RunOption) → listed said k ≡ values_of k is.parts.settings =
      λ k. sym (values-said said g k) ∙ ap (λ (p : SplitArguments). values_of k p.settings) parts in
      let other : said.other ≡ plan.other = said-same said.other plan.other (at option.Other ∙ is.other) in
      let bases : said.bases ≡ plan.bases = said-same said.bases plan.bases (at option.Bases ∙ is.bases) in
      let view : said.view ≡ plan.view =
      g.view ∙ ap (λ (p : SplitArguments). lead run argument ++ p.view) parts ∙ ap (λ (r : Subcommand). lead r argument ++ is.parts.view) (sym of.run_is)
      ∙ ap (λ (w : List ℕ). lead plan.run w ++ is.parts.view) (sym of.argument_is) ∙ lead-is plan.run is.argument is.parts.view ∙ sym asked.view_is in
      record {
        run_is = of.run_is;
        sizes = said-same said.sizes (Some plan.sizes) (at option.Sizes ∙ is.sizes);
        first = said-same said.first (Some plan.first) (at option.First ∙ is.first);
        other = other;
        bases = bases;
        width = ap width_said (at option.Width) ∙ is.width;
        limit = ap limit_said (at option.Limit) ∙ is.limit;
        view = view;
        needed =
            ap (λ (r : Subcommand). has_needed_files r said.other said.bases) (sym of.run_is) ∙ ap (λ (o : Option (List ℕ)). has_needed_files plan.run o said.bases) other
            ∙ ap (λ (o : Option (List ℕ)). has_needed_files plan.run plan.other o) bases ∙ asked.needed;
        understood = ap (are_view_arguments run) view ∙ ap (λ (r : Subcommand). are_view_arguments r plan.view) (sym of.run_is) ∙ accepted-by plan.run plan.view asked.accepted;
      }

  pub refuse-plan : (said : PartialPlan) → drafted run rest (begun_by run argument) ≡ Some said → ((plan : RunPlan) → ¬ Makes run said plan)
      → (plan : RunPlan) → ¬ IsPlan (argument ∷ rest) plan
  refuse-plan said h none plan is = none plan (makes said plan h is)

  -- why there is no plan
  abbrev pub IsNone : Fault → Type 0
  IsNone why = (why ≡ fault.NoMemory) ⊎ ((why ≡ fault.Words) × ((plan : RunPlan) → ¬ IsPlan (argument ∷ rest) plan))

  pub none-taken : (first : PartialPlan) (why : Fault) → first ≡ begun_by run argument
      → (why ≡ fault.NoMemory) ⊎ ((why ≡ fault.Words) × (drafted run rest first ≡ None)) → IsNone why
  none-taken first why begun refused = elim refused [
    | inl memory ↦ inl memory
    | inr arguments ↦ inr (arguments.0, refuse-taken (ap (drafted run rest) (sym begun) ∙ arguments.1))
  ]

  pub none-made : (first said : PartialPlan) (why : Fault) → first ≡ begun_by run argument → drafted run rest first ≡ Some said
      → (why ≡ fault.Words) × ((plan : RunPlan) → ¬ Makes run said plan) → IsNone why
  none-made first said why begun h refused = inr (refused.0, refuse-plan said (ap (drafted run rest) (sym begun) ∙ h) refused.1)
