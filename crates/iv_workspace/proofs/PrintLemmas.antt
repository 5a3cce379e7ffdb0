-- A view that is printed.
use Rattle.std.proofs.lemmas.Option.{slice_get-map, slice_get_within, slice_get_cases, get_or_from_slice_get}
use Rattle.std.proofs.lemmas.List.Elements.{All-from_recursion}
use Rattle.std.proofs.Common.{◌+◌, drop, get_or, append_assoc, add-one, drop-cons, inl, inr, length, slice_get, ◌≤◌, ◌≡◌, ℕ, List, [], ◌∷◌, ◌++◌, Option, None, Some, Result, Ok, Err, false, refl, sym, ap, ap₂, subst, ◌∙◌}
use Rattle.std.specs.Prelude.{All, codes, MatchOption, MatchResult, IsSomeAnd}
use Rattle.std.specs.List.{flat_map, AllByRecursion}
use Rattle.std.specs.Map.{lookup}
use Rattle.std.specs.Option.{option_map}
use Rattle.std.specs.Str.{bytes_eq}
use Rattle.iv_bytes.specs.Sinks.{SinkState, Takes, FailsIn, Puts}
use Rattle.iv_track.specs.declared.region.Region.{Region}
use Rattle.iv_view.specs.declared.view.View.{View}
use Rattle.iv_workspace.specs.declared.views.OpenView.{OpenView}
use Rattle.iv_workspace.specs.Inside.ViewStates.{seen}
use Rattle.iv_workspace.specs.Inside.ViewStates.{all_seen}
use Rattle.iv_workspace.specs.OpenViews.{current, all_current, with_current}
use Rattle.iv_workspace.specs.Prints.{PrintedAll, PrintedView}
use Rattle.iv_workspace.specs.States.{State}
use Rattle.iv_workspace.specs.Views.{all_text, text_in}
use Rattle.iv_workspace.specs.declared.fault.PrintFault.{PrintFault}
use Rattle.iv_workspace.specs.declared.fault.PrintFault.TheVariants as printing
use Rattle.iv_workspace.specs.OpenViews.{Shown}
use Rattle.iv_workspace.proofs.OpenViewLemmas.{current-named}

-- the line above a view's text, and both
abbrev pub name_line : List ℕ → List ℕ
name_line name = codes "#" ++ name ++ codes "\n"

abbrev pub headed_text : Option Region → State → List ℕ × Shown → List ℕ
headed_text part s v = name_line v.0 ++ text_in part s v.1.view

pub match-none : (o : Option Shown) (Q : Type 0) (P : Shown → Type 0) → None ≡ o → Q → MatchOption o Q P
match-none o Q P is q = subst (λ (o : Option Shown). MatchOption o Q P) is q

pub match-some : (o : Option Shown) (Q : Type 0) (P : Shown → Type 0) (v : Shown) → Some v ≡ o → P v → MatchOption o Q P
match-some o Q P v is p = subst (λ (o : Option Shown). MatchOption o Q P) is p

-- a view that is answered is that of the name
pub view-found : (o : Option Shown) (view : View) → Some view ≡ option_map (λ v. v.view) o → (v : Shown) × (Some v ≡ o) × (view ≡ v.view)
view-found None view is = absurd (cc is)
view-found (Some v) view is = (v, refl, cc is)

pub view-none : (o : Option Shown) → None ≡ option_map (λ v. v.view) o → None ≡ o
view-none None is = refl
view-none (Some v) is = absurd (cc is)

pub some-and : (o : Option Shown) (P : Shown → Type 0) → IsSomeAnd o P → (v : Shown) × (Some v ≡ o) × P v
some-and None P p = absurd p
some-and (Some v) P p = (v, refl, p)

-- the view of a name, once it is current
pub current-found : (name : List ℕ) (views more : List (List ℕ × Shown)) (v : Shown) → Some v ≡ lookup (bytes_eq name) views → more ≡ with_current views name
    → lookup (bytes_eq name) more ≡ Some (current v)
current-found name views more v found are = ap (lookup (bytes_eq name)) are ∙ current-named name views ∙ ap (option_map current) (sym found)

-- what it prints
pub same-text : (part : Option Region) (inside s : State) (v : Shown) (view : View) → inside ≡ s → view ≡ v.view → text_in part inside view ≡ text_in part s v.view
same-text part inside s v view same is = ap (text_in part inside) is ∙ ap (λ (u : State). text_in part u v.view) same

-- all views print the same, current or not
pub same-all_text : (part : Option Region) (s : State) → all_text part (record s { views = all_current s.views }) ≡ all_text part s
same-all_text part s = by s.views
  where
    by : (views : List (List ℕ × Shown)) → flat_map (headed_text part s) (all_current views) ≡ flat_map (headed_text part s) views
    by [] = refl
    by (v ∷ views) = ap (λ (l : List ℕ). headed_text part s v ++ l) (by views)

pub Takes-text : (old new : SinkState) (a b : List ℕ) → a ≡ b → Takes old new a → Takes old new b
Takes-text old new a b same took = subst (λ (l : List ℕ). Takes old new l) same took

pub FailsIn-text : (old new : SinkState) (a b : List ℕ) → a ≡ b → FailsIn old new a → FailsIn old new b
FailsIn-text old new a b same fails = subst (λ (l : List ℕ). FailsIn old new l) same fails

pub Puts-text : {T E : Type 0} (old new : SinkState) (put : Result T E) (a b : List ℕ) → a ≡ b → Puts old new put a → Puts old new put b
Puts-text old new put a b same puts = subst (λ (l : List ℕ). Puts old new put l) same puts

-- the answer of a print whose text was put, of one view and of all
pub view-answered : {E : Type 0} (part : Option Region) (old new : State) (name : List ℕ) (v : Shown) (out0 out1 : SinkState) (put : Result (Unit {0}) E) (result : Result (Unit {0}) PrintFault)
    → MatchResult put (λ done. result ≡ Ok done) (λ fault. result ≡ Err printing.Write) → Puts out0 out1 put (text_in part old v.view) → new ≡ record old { views = with_current old.views name } → PrintedView part old name v new out0 out1 result
view-answered part old new name v out0 out1 (Ok done) result is took same = subst (λ (r : Result (Unit {0}) PrintFault). PrintedView part old name v new out0 out1 r) (sym is) (took, same)
view-answered part old new name v out0 out1 (Err fault) result is fails same = subst (λ (r : Result (Unit {0}) PrintFault). PrintedView part old name v new out0 out1 r) (sym is) (fails, same)

pub all-answered : {E : Type 0} (part : Option Region) (old new : State) (out0 out1 : SinkState) (put : Result (Unit {0}) E) (result : Result (Unit {0}) PrintFault)
    → MatchResult put (λ done. result ≡ Ok done) (λ fault. result ≡ Err printing.Write) → Puts out0 out1 put (all_text part old) → new ≡ record old { views = all_current old.views } → PrintedAll part old new out0 out1 result
all-answered part old new out0 out1 (Ok done) result is took same = subst (λ (r : Result (Unit {0}) PrintFault). PrintedAll part old new out0 out1 r) (sym is) (took, same)
all-answered part old new out0 out1 (Err fault) result is fails same = subst (λ (r : Result (Unit {0}) PrintFault). PrintedAll part old new out0 out1 r) (sym is) (fails, same)

-- the view at an index, as contracts see it
pub seen-at : {A : Type 0} (views : List (List ℕ × OpenView A)) (i : ℕ) (name : List ℕ) (v : OpenView A) → Some (name, v) ≡ slice_get views i
    → Some (name, seen v) ≡ slice_get (all_seen views) i
seen-at {A} views i name v found =
    let view : List ℕ × OpenView A → List ℕ × Shown = λ e. (e.0, seen e.1) in
    ap (option_map view) found ∙ sym (slice_get-map view views i)

pub all-get : {X : Type 0} (P : X → Type 0) (xs : List X) (i : ℕ) (x : X) → Some x ≡ slice_get xs i → All P xs → P x
all-get P xs i x found all = subst P (get_or_from_slice_get xs i x x (sym found)) (all i x (slice_get_within xs i x (sym found)))

pub past-views : {X : Type 0} (xs : List X) (i : ℕ) → None ≡ slice_get xs i → length xs ≤ i
past-views xs i none = elim (slice_get_cases xs i).1 [
  | inl found ↦ absurd (cc (none ∙ found.2))
  | inr past ↦ past.0
]

-- views that were made current are
pub all-fresh : (views more : List (List ℕ × Shown)) → more ≡ all_current views → All (λ v. v.1.stale ≡ false) more
all-fresh views more is = subst (λ (l : List (List ℕ × Shown)). All (λ v. v.1.stale ≡ false) l) (sym is) (All-from_recursion (λ v. v.1.stale ≡ false) (all_current views) (by views))
  where
    by : (views : List (List ℕ × Shown)) → AllByRecursion (λ v. v.1.stale ≡ false) (all_current views)
    by [] = tt
    by (v ∷ views) = (refl, by views)

-- the view at an index is the next to be printed
pub views-next : (part : Option Region) (inside s : State) → inside ≡ s → (i : ℕ) (v : List ℕ × Shown) → Some v ≡ slice_get inside.views i
    → flat_map (headed_text part s) (drop i s.views) ≡ name_line v.0 ++ (text_in part s v.1.view ++ flat_map (headed_text part s) (drop (i + 1) s.views))
views-next part inside s same i v found =
    let at : Some v ≡ slice_get s.views i = found ∙ ap (λ (t : State). slice_get t.views i) same in
    let low = slice_get_within s.views i v (sym at) in
    let is : get_or s.views i v ≡ v = get_or_from_slice_get s.views i v v (sym at) in
    ap (flat_map (headed_text part s)) (drop-cons s.views i v low ∙ ap₂ (λ (q : List ℕ × Shown) (k : ℕ). q ∷ drop k s.views) is (sym (add-one i)))
    ∙ append_assoc (name_line v.0) (text_in part s v.1.view) (flat_map (headed_text part s) (drop (i + 1) s.views))
