-- The arguments of a run, taken from the front.
use Rattle.std.proofs.Common.{◌≡◌, ℕ, ◌+◌, ◌≤◌, Bool, true, false, List, [], ◌∷◌, ◌++◌, Option, Some, None, Bor, length, map, drop, refl, sym, ap, ◌∙◌, subst, arith, append-nil, append_assoc, length-append}
use Rattle.std.specs.Prelude.{filter, if◌then◌else◌}
use Rattle.std.specs.List.{slice_get}
use Rattle.std.specs.Option.{is_some, option_map, option_and_then, option_to_list}
use Rattle.std.proofs.lemmas.List.{map-append}
use Rattle.std.proofs.lemmas.List.Elements.{filter-append}
use Rattle.std.proofs.lemmas.Option.{none-some, same_Some}
use Rattle.iv_args.specs.declared.subcommand.Subcommand.{Subcommand}
use Rattle.iv_args.specs.declared.subcommand.RunOption.{RunOption}
use Rattle.iv_args.specs.declared.subcommand.RunOption.TheVariants as option
use Rattle.iv_args.specs.Arguments.{SplitArguments, split_arguments, split_next, option_of, takes_value, values_of, is_option}
use Rattle.iv_args.specs.Inside.Drafts.{PartialPlan, unless_given, with_value, viewed, last_drafted, next_drafted, drafted}

-- an option and its value
abbrev pub Setting : Type 0
Setting = RunOption × List ℕ

-- the parts, and a setting before them
abbrev pub with_setting : Setting → SplitArguments → SplitArguments
with_setting setting parts = record parts { settings = setting ∷ parts.settings }

-- the parts, and arguments of the view before them
abbrev pub with_arguments : List (List ℕ) → SplitArguments → SplitArguments
with_arguments arguments parts = record parts { view = arguments ++ parts.view }

-- the last argument: an option would lack its value
abbrev pub split_last : Option RunOption → List ℕ → Option SplitArguments
split_last asked argument = if is_some asked then None else Some (record { settings = []; view = argument ∷ [] })

-- ---- one argument at a time

-- the texts of references
abbrev texts : List (Bor (List ℕ)) → List (List ℕ)
texts arguments = map (λ argument. argument.now) arguments

module _ (run : Subcommand) (argument : List ℕ) (old : PartialPlan) where
  -- given what the argument is
  next-is : (o : Option RunOption) (takes : Bool) (next : List ℕ) (rest : List (List ℕ)) → option_of run argument ≡ o → takes_value run argument ≡ takes
      → drafted run (argument ∷ next ∷ rest) old ≡ next_drafted o takes argument next (drafted run rest) (drafted run (next ∷ rest)) old
  next-is o takes next rest is value_is =
      ap (λ (p : Option RunOption). next_drafted p (takes_value run argument) argument next (drafted run rest) (drafted run (next ∷ rest)) old) is
      ∙ ap (λ (b : Bool). next_drafted o b argument next (drafted run rest) (drafted run (next ∷ rest)) old) value_is

  -- an option and its value
  pub option-next : (asked : RunOption) (others : List (Bor (List ℕ))) (value : Bor (List ℕ)) → Some value ≡ slice_get others 0 → Some asked ≡ option_of run argument
      → drafted run (argument ∷ texts others) old ≡ option_and_then (drafted run (texts (drop 1 others))) (with_value asked value.now old)
  option-next asked [] value first is = absurd (none-some value (sym first))
  option-next asked (next ∷ rest) value first is =
      next-is (Some asked) (takes_value run argument) next.now (texts rest) (sym is) refl
      ∙ ap (λ (v : Bor (List ℕ)). option_and_then (drafted run (texts rest)) (with_value asked v.now old)) (sym (same_Some value next first))

  pub option-taken : (asked : RunOption) (others : List (Bor (List ℕ))) (value : Bor (List ℕ)) (new : PartialPlan) → Some value ≡ slice_get others 0
      → Some asked ≡ option_of run argument → with_value asked value.now old ≡ Some new → drafted run (argument ∷ texts others) old ≡ drafted run (texts (drop 1 others)) new
  option-taken asked others value new first is taken =
      option-next asked others value first is ∙ ap (option_and_then (drafted run (texts (drop 1 others)))) taken

  -- an argument of the view and its value
  pub value-taken : (others : List (Bor (List ℕ))) (value : Bor (List ℕ)) → Some value ≡ slice_get others 0 → None ≡ option_of run argument
      → takes_value run argument ≡ true → drafted run (argument ∷ texts others) old ≡ drafted run (texts (drop 1 others)) (viewed (argument ∷ value.now ∷ []) old)
  value-taken [] value first is takes = absurd (none-some value (sym first))
  value-taken (next ∷ rest) value first is takes =
      next-is None true next.now (texts rest) (sym is) takes
      ∙ ap (λ (v : Bor (List ℕ)). drafted run (texts rest) (viewed (argument ∷ v.now ∷ []) old)) (sym (same_Some value next first))

  -- an argument of the view without one
  pub word-taken : (others : List (Bor (List ℕ))) (value : Bor (List ℕ)) → Some value ≡ slice_get others 0 → None ≡ option_of run argument
      → takes_value run argument ≡ false → drafted run (argument ∷ texts others) old ≡ drafted run (texts others) (viewed (argument ∷ []) old)
  word-taken [] value first is takes = absurd (none-some value (sym first))
  word-taken (next ∷ rest) value first is takes = next-is None false next.now (texts rest) (sym is) takes

-- ---- what all arguments mean

-- the value given for an option
abbrev pub said_of : PartialPlan → RunOption → Option (List ℕ)
said_of said option.Sizes = said.sizes
said_of said option.First = said.first
said_of said option.Other = said.other
said_of said option.Bases = said.bases
said_of said option.Width = said.width
said_of said option.Limit = said.limit

-- the same as a list of one value or none
abbrev pub listed : PartialPlan → RunOption → List (List ℕ)
listed said asked = option_to_list (said_of said asked)

-- the value of a setting, if it is of this option
abbrev one_of : RunOption → RunOption → List ℕ → List (List ℕ)
one_of asked given value = values_of asked ((given, value) ∷ [])

values-cons : (asked given : RunOption) (value : List ℕ) (settings : List Setting)
    → values_of asked ((given, value) ∷ settings) ≡ one_of asked given value ++ values_of asked settings
values-cons asked given value settings =
    ap (map (λ (setting : Setting). setting.1)) (filter-append (λ (setting : Setting). is_option asked setting.0) ((given, value) ∷ []) settings)
    ∙ map-append (λ (setting : Setting). setting.1) (filter (λ (setting : Setting). is_option asked setting.0) ((given, value) ∷ []))
    (filter (λ (setting : Setting). is_option asked setting.0) settings)

-- what is read once an option has this value
abbrev set_to : RunOption → List ℕ → PartialPlan → PartialPlan
set_to option.Sizes value said = record said { sizes = Some value }
set_to option.First value said = record said { first = Some value }
set_to option.Other value said = record said { other = Some value }
set_to option.Bases value said = record said { bases = Some value }
set_to option.Width value said = record said { width = Some value }
set_to option.Limit value said = record said { limit = Some value }

unless-some : (o : Option (List ℕ)) (said new : PartialPlan) → unless_given o said ≡ Some new → (o ≡ None) × (new ≡ said)
unless-some None said new h = (refl, cc)
unless-some (Some value) said new h = absurd (none-some new h)

-- if a value can be given there was none before
set-new : (asked : RunOption) (old new : PartialPlan) (value : List ℕ) → with_value asked value old ≡ Some new → (said_of old asked ≡ None) × (new ≡ set_to asked value old)
set-new option.Sizes old new value h = unless-some old.sizes (set_to option.Sizes value old) new h
set-new asked old new value h = unless-some (said_of old asked) (set_to asked value old) new h

-- the value that was not given is given
given : (old : Option (List ℕ)) (value : List ℕ) → old ≡ None → value ∷ [] ≡ option_to_list old ++ (value ∷ [])
given old value none = ap (λ (o : Option (List ℕ)). option_to_list o ++ (value ∷ [])) (sym none)

-- another stays as it is
kept : (old : Option (List ℕ)) → option_to_list old ≡ option_to_list old ++ []
kept old = sym (append-nil (option_to_list old))

set-says : (asked other : RunOption) (old : PartialPlan) (value : List ℕ) → said_of old asked ≡ None
    → listed (set_to asked value old) other ≡ listed old other ++ one_of other asked value
set-says option.Sizes option.Sizes old value none = given old.sizes value none
set-says option.First option.First old value none = given old.first value none
set-says option.Other option.Other old value none = given old.other value none
set-says option.Bases option.Bases old value none = given old.bases value none
set-says option.Width option.Width old value none = given old.width value none
set-says option.Limit option.Limit old value none = given old.limit value none
set-says asked other old value none = kept (said_of old other)

set-view : (asked : RunOption) (old : PartialPlan) (value : List ℕ) → (set_to asked value old).view ≡ old.view
set-view option.Sizes old value = refl
set-view asked old value = refl

-- a setting that is taken gives its value and no other
record IsSet (asked : RunOption) (value : List ℕ) (old new : PartialPlan) : Type 0 where
  says : (k : RunOption) → listed new k ≡ listed old k ++ one_of k asked value
  view : new.view ≡ old.view

is-set : (asked : RunOption) (value : List ℕ) (old new : PartialPlan) → with_value asked value old ≡ Some new → IsSet asked value old new
is-set asked value old new h =
    let at = set-new asked old new value h in
    record {
      says = λ k. ap (λ (s : PartialPlan). listed s k) at.1 ∙ set-says asked k old value at.0;
      view = ap (λ (s : PartialPlan). s.view) at.1 ∙ set-view asked old value;
    }

-- after it come the other values
is-set-before : (asked k : RunOption) (value : List ℕ) (old new : PartialPlan) (settings : List Setting) → IsSet asked value old new
    → listed new k ++ values_of k settings ≡ listed old k ++ values_of k ((asked, value) ∷ settings)
is-set-before asked k value old new settings set =
    ap (λ (l : List (List ℕ)). l ++ values_of k settings) (set.says k)
    ∙ append_assoc (listed old k) (one_of k asked value) (values_of k settings)
    ∙ ap (λ (l : List (List ℕ)). listed old k ++ l) (sym (values-cons k asked value settings))

viewed-says : (k : RunOption) (arguments : List (List ℕ)) (old : PartialPlan) → listed (viewed arguments old) k ≡ listed old k
viewed-says option.Sizes arguments old = refl
viewed-says k arguments old = refl

-- ---- arguments that can be taken

-- the arguments have parts, and what is read after them is what was read before and these
pub record Gives (said_parts : Option SplitArguments) (old new : PartialPlan) : Type 0 where
  pub parts : SplitArguments
  pub are : said_parts ≡ Some parts
  pub values : (k : RunOption) → listed new k ≡ listed old k ++ values_of k parts.settings
  pub view : new.view ≡ old.view ++ parts.view

gives-nothing : (old new : PartialPlan) → Some old ≡ Some new → Gives (Some (record { settings = []; view = [] })) old new
gives-nothing old new h = record {
  parts = record { settings = []; view = [] };
  are = refl;
  values = λ k. ap (λ (s : PartialPlan). listed s k) (sym (same_Some old new h)) ∙ sym (append-nil (listed old k));
  view = ap (λ (s : PartialPlan). s.view) (sym (same_Some old new h)) ∙ sym (append-nil old.view);
}

gives-option : (asked : RunOption) (value : List ℕ) (old mid new : PartialPlan) (p : Option SplitArguments) → IsSet asked value old mid → Gives p mid new
    → Gives (option_map (with_setting (asked, value)) p) old new
gives-option asked value old mid new p set g = record {
  parts = with_setting (asked, value) g.parts;
  are = ap (option_map (with_setting (asked, value))) g.are;
  values = λ k. g.values k ∙ is-set-before asked k value old mid g.parts.settings set;
  view = g.view ∙ ap (λ (l : List (List ℕ)). l ++ g.parts.view) set.view;
}

gives-words : (arguments : List (List ℕ)) (old new : PartialPlan) (p : Option SplitArguments) → Gives p (viewed arguments old) new → Gives (option_map (with_arguments arguments) p) old new
gives-words arguments old new p g = record {
  parts = with_arguments arguments g.parts;
  are = ap (option_map (with_arguments arguments)) g.are;
  values = λ k. g.values k ∙ ap (λ (l : List (List ℕ)). l ++ values_of k g.parts.settings) (viewed-says k arguments old);
  view = g.view ∙ append_assoc old.view arguments g.parts.view;
}

last-gives : (o : Option RunOption) (argument : List ℕ) (old new : PartialPlan) → last_drafted o argument old ≡ Some new → Gives (split_last o argument) old new
last-gives None argument old new h = gives-words (argument ∷ []) old new (Some (record { settings = []; view = [] })) (gives-nothing (viewed (argument ∷ []) old) new h)
last-gives (Some asked) argument old new h = absurd (none-some new h)

next-gives : (o : Option RunOption) (takes : Bool) (argument next : List ℕ) (old new : PartialPlan) (both one : PartialPlan → Option PartialPlan) (p q : Option SplitArguments)
    → ((s : PartialPlan) → both s ≡ Some new → Gives p s new) → ((s : PartialPlan) → one s ≡ Some new → Gives q s new)
    → next_drafted o takes argument next both one old ≡ Some new → Gives (split_next o takes argument next p q) old new
next-gives (Some asked) takes argument next old new both one p q at_both at_one h = by (with_value asked next old) refl h
  where
    by : (o : Option PartialPlan) → with_value asked next old ≡ o → option_and_then both o ≡ Some new → Gives (option_map (with_setting (asked, next)) p) old new
    by None is h = absurd (none-some new h)
    by (Some mid) is h = gives-option asked next old mid new p (is-set asked next old mid is) (at_both mid h)
next-gives None true argument next old new both one p q at_both at_one h =
    gives-words (argument ∷ next ∷ []) old new p (at_both (viewed (argument ∷ next ∷ []) old) h)
next-gives None false argument next old new both one p q at_both at_one h =
    gives-words (argument ∷ []) old new q (at_one (viewed (argument ∷ []) old) h)

pub drafted-gives : (run : Subcommand) (arguments : List (List ℕ)) (old new : PartialPlan) → drafted run arguments old ≡ Some new → Gives (split_arguments run arguments) old new
drafted-gives run [] old new h = gives-nothing old new h
drafted-gives run (argument ∷ []) old new h = last-gives (option_of run argument) argument old new h
drafted-gives run (argument ∷ next ∷ arguments) old new h =
    next-gives (option_of run argument) (takes_value run argument) argument next old new (drafted run arguments) (drafted run (next ∷ arguments)) (split_arguments run arguments)
    (split_arguments run (next ∷ arguments)) (λ s. drafted-gives run arguments s new) (λ s. drafted-gives run (next ∷ arguments) s new) h

-- ---- arguments that cannot be taken

-- no option has two values
abbrev pub HasNoTwice : PartialPlan → SplitArguments → Type 0
HasNoTwice said parts = (k : RunOption) → length (listed said k ++ values_of k parts.settings) ≤ 1

-- arguments that have parts give an option two values
abbrev pub Never : Option SplitArguments → PartialPlan → Type 0
Never said_parts said = (parts : SplitArguments) → said_parts ≡ Some parts → HasNoTwice said parts → ⊥

given_before : (o : Option (List ℕ)) (said : PartialPlan) → unless_given o said ≡ None → 1 ≤ length (option_to_list o)
given_before None said h = absurd (none-some said (sym h))
given_before (Some value) said h = omega arith

-- an option whose value cannot be given has one
refused : (asked : RunOption) (said : PartialPlan) (value : List ℕ) → with_value asked value said ≡ None → 1 ≤ length (listed said asked)
refused option.Sizes said value h = given_before said.sizes _ h
refused asked said value h = given_before (said_of said asked) _ h

-- a setting is of its own option
own : (asked : RunOption) (value : List ℕ) (settings : List Setting) → values_of asked ((asked, value) ∷ settings) ≡ value ∷ values_of asked settings
own option.Sizes value settings = refl
own asked value settings = refl

twice : (asked : RunOption) (value : List ℕ) (old : PartialPlan) (settings : List Setting) → with_value asked value old ≡ None
    → length (listed old asked ++ values_of asked ((asked, value) ∷ settings)) ≤ 1 → ⊥
twice asked value old settings h once =
    let before = refused asked old value h in
    let parts : length (listed old asked ++ values_of asked ((asked, value) ∷ settings)) ≡ length (listed old asked) + length (value ∷ values_of asked settings) =
    ap (λ (l : List (List ℕ)). length (listed old asked ++ l)) (own asked value settings) ∙ length-append (listed old asked) (value ∷ values_of asked settings) in
    omega (arith, before, parts, once)

never-option : (asked : RunOption) (value : List ℕ) (old : PartialPlan) (p : Option SplitArguments)
    → ((mid : PartialPlan) → with_value asked value old ≡ Some mid → Never p mid) → Never (option_map (with_setting (asked, value)) p) old
never-option asked value old None at parts are once = none-some parts are
never-option asked value old (Some q) at parts are once = by (with_value asked value old) refl
  where
    same : with_setting (asked, value) q ≡ parts
    same = same_Some (with_setting (asked, value) q) parts are

    once-of : HasNoTwice old (with_setting (asked, value) q)
    once-of = subst (λ (x : SplitArguments). HasNoTwice old x) (sym same) once

    by : (o : Option PartialPlan) → with_value asked value old ≡ o → ⊥
    by None is = twice asked value old q.settings is (once-of asked)
    by (Some mid) is =
        at mid is q refl (λ k. subst (λ (l : List (List ℕ)). length l ≤ 1) (sym (is-set-before asked k value old mid q.settings (is-set asked value old mid is))) (once-of k))

never-words : (arguments : List (List ℕ)) (old : PartialPlan) (p : Option SplitArguments) → Never p (viewed arguments old) → Never (option_map (with_arguments arguments) p) old
never-words arguments old None never parts are once = none-some parts are
never-words arguments old (Some q) never parts are once =
    let same = same_Some (with_arguments arguments q) parts are in
    never q refl (λ k. subst (λ (l : List (List ℕ)). length (l ++ values_of k q.settings) ≤ 1) (sym (viewed-says k arguments old))
    (subst (λ (x : SplitArguments). length (listed old k ++ values_of k x.settings) ≤ 1) (sym same) (once k)))

last-never : (o : Option RunOption) (argument : List ℕ) (old : PartialPlan) → last_drafted o argument old ≡ None → Never (split_last o argument) old
last-never None argument old h parts are once = none-some (viewed (argument ∷ []) old) (sym h)
last-never (Some asked) argument old h parts are once = none-some parts are

next-never : (o : Option RunOption) (takes : Bool) (argument next : List ℕ) (old : PartialPlan) (both one : PartialPlan → Option PartialPlan) (p q : Option SplitArguments)
    → ((s : PartialPlan) → both s ≡ None → Never p s) → ((s : PartialPlan) → one s ≡ None → Never q s)
    → next_drafted o takes argument next both one old ≡ None → Never (split_next o takes argument next p q) old
next-never (Some asked) takes argument next old both one p q at_both at_one h =
    never-option asked next old p (λ mid is. at_both mid (sym (ap (option_and_then both) is) ∙ h))
next-never None true argument next old both one p q at_both at_one h = never-words (argument ∷ next ∷ []) old p (at_both (viewed (argument ∷ next ∷ []) old) h)
next-never None false argument next old both one p q at_both at_one h = never-words (argument ∷ []) old q (at_one (viewed (argument ∷ []) old) h)

pub drafted-never : (run : Subcommand) (arguments : List (List ℕ)) (old : PartialPlan) → drafted run arguments old ≡ None → Never (split_arguments run arguments) old
drafted-never run [] old h = absurd (none-some old (sym h))
drafted-never run (argument ∷ []) old h = last-never (option_of run argument) argument old h
drafted-never run (argument ∷ next ∷ arguments) old h =
    next-never (option_of run argument) (takes_value run argument) argument next old (drafted run arguments) (drafted run (next ∷ arguments)) (split_arguments run arguments)
    (split_arguments run (next ∷ arguments)) (λ s. drafted-never run arguments s) (λ s. drafted-never run (next ∷ arguments) s) h
