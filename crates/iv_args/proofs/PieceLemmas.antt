-- Pieces of the arguments of a run that are exchanged, and an option that comes twice.
use Rattle.std.proofs.Common.{◌≡◌, ◌≢◌, ◌↔◌, ℕ, ◌+◌, ◌≤◌, Bool, true, false, true≢false, List, [], ◌∷◌, ◌++◌, Option, Some, None, length, map, cond, refl, sym, ap, ◌∙◌, subst, arith, append_assoc, unwrap_or}
use Rattle.std.specs.Prelude.{◌||◌, if◌then◌else◌, filter, All}
use Rattle.std.specs.List.{AllByRecursion}
use Rattle.std.specs.Option.{option_map, option_to_list, is_some}
use Rattle.std.proofs.lemmas.Bool.{false≢true}
use Rattle.std.proofs.lemmas.List.Elements.{recursion_from_All}
use Rattle.std.proofs.lemmas.Option.{none-some, same_Some}
use Rattle.iv_lines.proofs.ListLemmas.{option_map-map}
use Rattle.iv_args.specs.declared.subcommand.Subcommand.{Subcommand}
use Rattle.iv_args.specs.declared.subcommand.RunOption.{RunOption}
use Rattle.iv_args.specs.declared.subcommand.RunOption.TheVariants as option
use Rattle.iv_args.specs.Arguments.{RunPlan, IsPlan, SplitArguments, split_arguments, split_next, run_of, is_session, option_of, takes_value, values_of, is_option}
use Rattle.iv_args.specs.Inside.Drafts.{limit_said, width_said}
use Rattle.iv_args.specs.Inside.Pieces.{Piece, piece_arguments, IsPiece}
use Rattle.iv_args.proofs.DraftLemmas.{Setting, with_setting, with_arguments, split_last}
use Rattle.iv_args.proofs.ArgumentLemmas.{at-most-one, for-kind, of-kind}

-- ---- what a piece adds to the parts of the arguments after it

-- the arguments of a piece
abbrev words_of : Piece → List (List ℕ)
words_of piece = piece.argument ∷ option_to_list piece.value

-- the parts with a piece before them, given the option that it is
abbrev put : Option RunOption → Piece → SplitArguments → SplitArguments
put None piece parts = with_arguments (words_of piece) parts
put (Some asked) piece parts = with_setting (asked, unwrap_or piece.value []) parts

-- the parts with pieces before them
abbrev put_all : Subcommand → List Piece → SplitArguments → SplitArguments
put_all run [] parts = parts
put_all run (piece ∷ pieces) parts = put (option_of run piece.argument) piece (put_all run pieces parts)

next-by : (run : Subcommand) (argument next : List ℕ) (rest : List (List ℕ)) (o : Option RunOption) (takes : Bool) → option_of run argument ≡ o → takes_value run argument ≡ takes
    → split_arguments run (argument ∷ next ∷ rest) ≡ split_next o takes argument next (split_arguments run rest) (split_arguments run (next ∷ rest))
next-by run argument next rest o takes is value_is =
    ap (λ (p : Option RunOption). split_next p (takes_value run argument) argument next (split_arguments run rest) (split_arguments run (next ∷ rest))) is
    ∙ ap (λ (b : Bool). split_next o b argument next (split_arguments run rest) (split_arguments run (next ∷ rest))) value_is

split_arguments-by : (run : Subcommand) (argument : List ℕ) (value : Option (List ℕ)) (o : Option RunOption) (takes : Bool) → option_of run argument ≡ o → takes_value run argument ≡ takes
    → is_some value ≡ (is_some o || takes) → (arguments : List (List ℕ))
    → split_arguments run ((argument ∷ option_to_list value) ++ arguments) ≡ option_map (put o (record { argument = argument; value = value })) (split_arguments run arguments)
split_arguments-by run argument None None false is takes whole [] = ap (λ (p : Option RunOption). split_last p argument) is
split_arguments-by run argument None None false is takes whole (next ∷ arguments) = next-by run argument next arguments None false is takes
split_arguments-by run argument None o t is takes whole arguments = absurd (false≢true whole)
split_arguments-by run argument (Some value) None false is takes whole arguments = absurd (true≢false whole)
split_arguments-by run argument (Some value) None true is takes whole arguments = next-by run argument value arguments None true is takes
split_arguments-by run argument (Some value) (Some asked) t is takes whole arguments = next-by run argument value arguments (Some asked) t is takes

map-none : (o : Option SplitArguments) → o ≡ option_map (λ p. p) o
map-none None = refl
map-none (Some p) = refl

-- whole pieces are read one after another
split_arguments-pieces : (run : Subcommand) (pieces : List Piece) (arguments : List (List ℕ)) → AllByRecursion (IsPiece run) pieces
    → split_arguments run (piece_arguments pieces ++ arguments) ≡ option_map (put_all run pieces) (split_arguments run arguments)
split_arguments-pieces run [] arguments whole = map-none (split_arguments run arguments)
split_arguments-pieces run (piece ∷ pieces) arguments whole =
    ap (split_arguments run) (append_assoc (words_of piece) (piece_arguments pieces) arguments)
    ∙ split_arguments-by run piece.argument piece.value (option_of run piece.argument) (takes_value run piece.argument) refl refl whole.0 (piece_arguments pieces ++ arguments)
    ∙ ap (option_map (put (option_of run piece.argument) piece)) (split_arguments-pieces run pieces arguments whole.1)
    ∙ option_map-map (put (option_of run piece.argument) piece) (put_all run pieces) (split_arguments run arguments)

-- ---- pieces that are exchanged

-- parts with the same arguments of the view, in which each option has the same values
record SameParts (p q : SplitArguments) : Type 0 where
  values : (k : RunOption) → values_of k p.settings ≡ values_of k q.settings
  view : p.view ≡ q.view

option-same : (k asked : RunOption) → is_option k asked ≡ true → k ≡ asked
option-same option.Sizes option.Sizes h = refl
option-same option.First option.First h = refl
option-same option.Other option.Other h = refl
option-same option.Bases option.Bases h = refl
option-same option.Width option.Width h = refl
option-same option.Limit option.Limit h = refl
option-same _ _ h = absurd (false≢true h)

-- the settings of an option
abbrev settings_of : RunOption → List Setting → List Setting
settings_of k settings = filter (λ (setting : Setting). is_option k setting.0) settings

abbrev texts : List Setting → List (List ℕ)
texts settings = map (λ (setting : Setting). setting.1) settings

values-after : (k asked : RunOption) (value : List ℕ) (xs ys : List Setting) → values_of k xs ≡ values_of k ys
    → values_of k ((asked, value) ∷ xs) ≡ values_of k ((asked, value) ∷ ys)
values-after k asked value xs ys same = by (is_option k asked)
  where
    by : (b : Bool) → texts (cond b ((asked, value) ∷ settings_of k xs) (settings_of k xs)) ≡ texts (cond b ((asked, value) ∷ settings_of k ys) (settings_of k ys))
    by true = ap (λ (l : List (List ℕ)). value ∷ l) same
    by false = same

values-swapped : (k j l : RunOption) (x y : List ℕ) (xs : List Setting) → (j ≡ l → ⊥) → values_of k ((j, x) ∷ (l, y) ∷ xs) ≡ values_of k ((l, y) ∷ (j, x) ∷ xs)
values-swapped k j l x y xs other = by (is_option k j) (is_option k l) (λ e f. other (sym (option-same k j e) ∙ option-same k l f))
  where
    by : (b c : Bool) → (b ≡ true → c ≡ true → ⊥)
        → texts (cond b ((j, x) ∷ cond c ((l, y) ∷ settings_of k xs) (settings_of k xs)) (cond c ((l, y) ∷ settings_of k xs) (settings_of k xs)))
        ≡ texts (cond c ((l, y) ∷ cond b ((j, x) ∷ settings_of k xs) (settings_of k xs)) (cond b ((j, x) ∷ settings_of k xs) (settings_of k xs)))
    by true true apart = absurd (apart refl refl)
    by false false apart = refl
    by b c apart = refl

put-same : (o : Option RunOption) (piece : Piece) (p q : SplitArguments) → SameParts p q → SameParts (put o piece p) (put o piece q)
put-same None piece p q same = record { values = same.values; view = ap (λ (l : List (List ℕ)). words_of piece ++ l) same.view }
put-same (Some asked) piece p q same = record {
  values = λ k. values-after k asked (unwrap_or piece.value []) p.settings q.settings (same.values k);
  view = same.view;
}

put-swapped : (o r : Option RunOption) (a b : Piece) (p : SplitArguments) → o ≢ r → SameParts (put o a (put r b p)) (put r b (put o a p))
put-swapped None None a b p other = absurd (other refl)
put-swapped (Some j) (Some l) a b p other = record {
  values = λ k. values-swapped k j l (unwrap_or a.value []) (unwrap_or b.value []) p.settings (λ same. other (ap Some same));
  view = refl;
}
put-swapped o r a b p other = record { values = λ k. refl; view = refl }

put_all-swapped : (run : Subcommand) (front : List Piece) (a b : Piece) (p : SplitArguments) → option_of run a.argument ≢ option_of run b.argument
    → SameParts (put_all run (front ++ a ∷ b ∷ []) p) (put_all run (front ++ b ∷ a ∷ []) p)
put_all-swapped run [] a b p other = put-swapped (option_of run a.argument) (option_of run b.argument) a b p other
put_all-swapped run (c ∷ front) a b p other =
    put-same (option_of run c.argument) c (put_all run (front ++ a ∷ b ∷ []) p) (put_all run (front ++ b ∷ a ∷ []) p) (put_all-swapped run front a b p other)

all-swapped : (P : Piece → Type 0) (front : List Piece) (a b : Piece) → AllByRecursion P (front ++ a ∷ b ∷ []) → AllByRecursion P (front ++ b ∷ a ∷ [])
all-swapped P [] a b h = (h.1.0, (h.0, tt))
all-swapped P (c ∷ front) a b h = (h.0, all-swapped P front a b h.1)

-- the arguments have parts that are the same as these
abbrev HasParts : Option SplitArguments → SplitArguments → Type 0
HasParts o p = (q : SplitArguments) × (o ≡ Some q) × SameParts p q

same-parts : (f g : SplitArguments → SplitArguments) → ((r : SplitArguments) → SameParts (f r) (g r)) → (o : Option SplitArguments) (p : SplitArguments) → option_map f o ≡ Some p → HasParts (option_map g o) p
same-parts f g same None p is = absurd (none-some p is)
same-parts f g same (Some r) p is = (g r, refl, subst (λ (x : SplitArguments). SameParts x (g r)) (same_Some (f r) p is) (same r))

parts-swapped : (run : Subcommand) (front : List Piece) (a b : Piece) (back : List (List ℕ)) (p : SplitArguments) → AllByRecursion (IsPiece run) (front ++ a ∷ b ∷ [])
    → option_of run a.argument ≢ option_of run b.argument → split_arguments run (piece_arguments (front ++ a ∷ b ∷ []) ++ back) ≡ Some p
    → HasParts (split_arguments run (piece_arguments (front ++ b ∷ a ∷ []) ++ back)) p
parts-swapped run front a b back p whole other is =
    subst (λ (o : Option SplitArguments). HasParts o p) (sym (split_arguments-pieces run (front ++ b ∷ a ∷ []) back (all-swapped (IsPiece run) front a b whole)))
    (same-parts (put_all run (front ++ a ∷ b ∷ [])) (put_all run (front ++ b ∷ a ∷ [])) (λ r. put_all-swapped run front a b r other) (split_arguments run back) p
    (sym (split_arguments-pieces run (front ++ a ∷ b ∷ []) back whole) ∙ is))

-- the parts of the arguments of a plan
plan-parts : (argument : List ℕ) (rest : List (List ℕ)) (plan : RunPlan) (is : IsPlan (argument ∷ rest) plan) → split_arguments plan.run rest ≡ Some is.parts
plan-parts argument rest plan is =
    let same : rest ≡ is.rest = cc is.are in
    ap (split_arguments plan.run) same ∙ is.splitting

-- arguments with the same parts are the same plan
plan-alike : (argument : List ℕ) (rest other : List (List ℕ)) (plan : RunPlan) (is : IsPlan (argument ∷ rest) plan) → HasParts (split_arguments plan.run other) is.parts → IsPlan (argument ∷ other) plan
plan-alike argument rest other plan is like =
    let asked = for-kind plan.run is.argument is.parts plan.view plan.other plan.bases is.other is.bases is.kind in
    let same : argument ≡ is.argument = cc is.are in
    let first_is = sym (like.2.values option.First) ∙ is.first in
    let other_is = sym (like.2.values option.Other) ∙ is.other in
    let bases_are = sym (like.2.values option.Bases) ∙ is.bases in
    record {
      argument = argument;
      rest = other;
      parts = like.0;
      are = refl;
      run = ap run_of same ∙ is.run;
      splitting = like.1;
      sizes = sym (like.2.values option.Sizes) ∙ is.sizes;
      first = first_is;
      other = other_is;
      bases = bases_are;
      width = ap width_said (sym (like.2.values option.Width)) ∙ is.width;
      limit = ap limit_said (sym (like.2.values option.Limit)) ∙ is.limit;
      kind = of-kind plan.run argument like.0 plan.view plan.first plan.other plan.bases first_is other_is bases_are
          (asked.view_is ∙ ap (λ (w : List ℕ). if is_session plan.run then is.parts.view else w ∷ is.parts.view) (sym same)
          ∙ ap (λ (l : List (List ℕ)). if is_session plan.run then l else argument ∷ l) like.2.view)
          asked.needed asked.accepted;
    }

plan-moved : (plan : RunPlan) (argument : List ℕ) (front : List Piece) (a b : Piece) (back : List (List ℕ)) → AllByRecursion (IsPiece plan.run) (front ++ a ∷ b ∷ [])
    → option_of plan.run a.argument ≢ option_of plan.run b.argument → IsPlan (argument ∷ (piece_arguments (front ++ a ∷ b ∷ []) ++ back)) plan
    → IsPlan (argument ∷ (piece_arguments (front ++ b ∷ a ∷ []) ++ back)) plan
plan-moved plan argument front a b back whole other is =
    plan-alike argument (piece_arguments (front ++ a ∷ b ∷ []) ++ back) (piece_arguments (front ++ b ∷ a ∷ []) ++ back) plan is
    (parts-swapped plan.run front a b back is.parts whole other (plan-parts argument (piece_arguments (front ++ a ∷ b ∷ []) ++ back) plan is))

-- two pieces that are exchanged leave the plan as it is
pub plan-swapped : (plan : RunPlan) (argument : List ℕ) (front : List Piece) (a b : Piece) (back : List (List ℕ)) → All (IsPiece plan.run) (front ++ a ∷ b ∷ [])
    → option_of plan.run a.argument ≢ option_of plan.run b.argument
    → (IsPlan (argument ∷ (piece_arguments (front ++ a ∷ b ∷ []) ++ back)) plan ↔ IsPlan (argument ∷ (piece_arguments (front ++ b ∷ a ∷ []) ++ back)) plan)
plan-swapped plan argument front a b back all other =
    let whole : AllByRecursion (IsPiece plan.run) (front ++ a ∷ b ∷ []) = recursion_from_All (IsPiece plan.run) (front ++ a ∷ b ∷ []) all in (
      plan-moved plan argument front a b back whole other,
      plan-moved plan argument front b a back (all-swapped (IsPiece plan.run) front a b whole) (λ same. other (sym same)),
    )

-- ---- an option that comes twice

more-values : (b : Bool) (setting : Setting) (settings : List Setting) → length (texts settings) ≤ length (texts (cond b (setting ∷ settings) settings))
more-values true setting settings = omega arith
more-values false setting settings = omega arith

-- how many values an option has in the parts
abbrev count_of : RunOption → SplitArguments → ℕ
count_of k p = length (values_of k p.settings)

put-more : (k : RunOption) (o : Option RunOption) (piece : Piece) (p : SplitArguments) → count_of k p ≤ count_of k (put o piece p)
put-more k None piece p = omega arith
put-more k (Some asked) piece p = more-values (is_option k asked) (asked, unwrap_or piece.value []) (settings_of k p.settings)

put-own : (k : RunOption) (piece : Piece) (p : SplitArguments) → count_of k (put (Some k) piece p) ≡ count_of k p + 1
put-own option.Sizes piece p = omega arith
put-own k piece p = omega arith

put-given : (k : RunOption) (o : Option RunOption) (piece : Piece) (p : SplitArguments) → o ≡ Some k → count_of k (put o piece p) ≡ count_of k p + 1
put-given k o piece p is = subst (λ (r : Option RunOption). count_of k (put r piece p) ≡ count_of k p + 1) (sym is) (put-own k piece p)

one-value : (run : Subcommand) (k : RunOption) (middle : List Piece) (b : Piece) (p : SplitArguments) → option_of run b.argument ≡ Some k → 1 ≤ count_of k (put_all run (middle ++ b ∷ []) p)
one-value run k [] b p is = let more = put-given k (option_of run b.argument) b p is in omega (arith, more)
one-value run k (c ∷ middle) b p is =
    let some = one-value run k middle b p is in
    let more = put-more k (option_of run c.argument) c (put_all run (middle ++ b ∷ []) p) in
    omega (arith, some, more)

two-values : (run : Subcommand) (k : RunOption) (front middle : List Piece) (a b : Piece) (p : SplitArguments) → option_of run a.argument ≡ Some k → option_of run b.argument ≡ Some k
    → 2 ≤ count_of k (put_all run (front ++ a ∷ (middle ++ b ∷ [])) p)
two-values run k [] middle a b p first second =
    let some = one-value run k middle b p second in
    let more = put-given k (option_of run a.argument) a (put_all run (middle ++ b ∷ []) p) first in
    omega (arith, some, more)
two-values run k (c ∷ front) middle a b p first second =
    let some = two-values run k front middle a b p first second in
    let more = put-more k (option_of run c.argument) c (put_all run (front ++ a ∷ (middle ++ b ∷ [])) p) in
    omega (arith, some, more)

map-some : (f : SplitArguments → SplitArguments) (o : Option SplitArguments) (p : SplitArguments) → option_map f o ≡ Some p → (r : SplitArguments) × (f r ≡ p)
map-some f None p is = absurd (none-some p is)
map-some f (Some r) p is = (r, same_Some (f r) p is)

pub plan-never : (plan : RunPlan) (argument : List ℕ) (front middle : List Piece) (a b : Piece) (back : List (List ℕ)) (asked : RunOption)
    → All (IsPiece plan.run) (front ++ a ∷ (middle ++ b ∷ [])) → option_of plan.run a.argument ≡ Some asked → option_of plan.run b.argument ≡ Some asked
    → ¬ IsPlan (argument ∷ (piece_arguments (front ++ a ∷ (middle ++ b ∷ [])) ++ back)) plan
plan-never plan argument front middle a b back asked all first second is =
    let pieces = front ++ a ∷ (middle ++ b ∷ []) in
    let read = split_arguments-pieces plan.run pieces back (recursion_from_All (IsPiece plan.run) pieces all) in
    let from = map-some (put_all plan.run pieces) (split_arguments plan.run back) is.parts (sym read ∙ plan-parts argument (piece_arguments pieces ++ back) plan is) in
    let two : 2 ≤ count_of asked is.parts = subst (λ (p : SplitArguments). 2 ≤ count_of asked p) from.1 (two-values plan.run asked front middle a b from.0 first second) in
    absurd (omega (arith, two, at-most-one (argument ∷ (piece_arguments pieces ++ back)) plan is asked))
