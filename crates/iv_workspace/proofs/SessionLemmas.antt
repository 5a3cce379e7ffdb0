-- The records of a session.
use Rattle.std.specs.Prelude.{All, IfSome, IsSome, option_map}
use Rattle.std.proofs.Common.{◌≡◌, ◌∙◌, ℕ, ◌<◌, ◌≤◌, Bool, true, false, List, [], ◌∷◌, Option, None, Some, Ok, length, refl, sym, ap, subst}
use Rattle.std.specs.Option.{is_some}
use Rattle.std.proofs.lemmas.Bool.{lt-leb}
use Rattle.iv_lines.specs.Genome.{Sequences}
use Rattle.iv_text.specs.BedFile.{Bed}
use Rattle.iv_lines.specs.Read.{Fits}
use Rattle.iv_lines.specs.RecordValue.{RecordValue}
use Rattle.iv_lines.proofs.OrderedLemmas.{ordered-all}
use Rattle.iv_pair.proofs.LengthLemmas.{few-ordered}
use Rattle.iv_track.specs.Tracked.{Tracked}
use Rattle.iv_view.specs.declared.kept_state.StateKey.{StateKey}
use Rattle.iv_view.specs.declared.view.View.{View}
use Rattle.iv_view.specs.declared.view.View.TheVariants as view
use Rattle.iv_view.specs.declared.written_view.WrittenView.{WrittenView}
use Rattle.iv_view.specs.KeptStates.{state_key_of}
use Rattle.iv_view.specs.Arguments.{read_arguments}
use Rattle.iv_workspace.specs.OpenViews.{Shown, Stales, Freshens, all_current, with_current}
use Rattle.iv_workspace.specs.Views.{is_view_name, view_named, view_asked}
use Rattle.iv_workspace.proofs.OpenViewLemmas.{freshens-all, freshens-one}
use Rattle.iv_workspace.specs.States.{State, tracked}
use Rattle.iv_workspace.specs.Inside.States.{IsTrackOn, IsServed, AreServed, IsWrittenFresh, AreWrittenFresh, IsSession}

-- the views of a session are changed
pub views-changed : (change : List (List ℕ × Shown) → List (List ℕ × Shown)) (inside s : State) (more : List (List ℕ × Shown)) → inside ≡ s → more ≡ change inside.views
    → record inside { views = more } ≡ record s { views = change s.views }
views-changed change inside s more same is =
    ap (λ (l : List (List ℕ × Shown)). record inside { views = l }) is ∙ ap (λ (u : State). record u { views = change u.views }) same

-- if the name has no fault, the words decide
pub no-name_fault : (inside s : State) (name : List ℕ) (arguments : List (List ℕ)) (v : View) → inside ≡ s → is_view_name name ≡ true → is_some (view_named inside.views name) ≡ false
    → length inside.views < 64 → read_arguments inside.track.width (is_some inside.second) (is_some inside.bases) arguments ≡ Ok v → view_asked s name arguments ≡ Ok v
no-name_fault inside s name arguments v same good free few said =
    subst (λ (t : State). view_asked t name arguments ≡ Ok v) same (rw (good, free, lt-leb 64 (length inside.views) few) said)

-- ---- views beside a second file

-- which views are stale makes no difference to that
served-stales : (second : Option Tracked) (old new : List (List ℕ × Shown)) → Stales old new → AreServed second old → AreServed second new
served-stales second [] [] less served = tt
served-stales second [] (w ∷ new) less served = absurd less
served-stales second (v ∷ old) [] less served = absurd less
served-stales second (v ∷ old) (w ∷ new) less served =
    (subst (IsServed second) (sym less.0.1) served.0, served-stales second old new less.1 served.1)

served-fresher : (second : Option Tracked) (old new : List (List ℕ × Shown)) → Freshens old new → AreServed second old → AreServed second new
served-fresher second [] [] less served = tt
served-fresher second [] (w ∷ new) less served = absurd less
served-fresher second (v ∷ old) [] less served = absurd less
served-fresher second (v ∷ old) (w ∷ new) less served =
    (subst (IsServed second) (sym less.0.1) served.0, served-fresher second old new less.1 served.1)

-- ---- written views

-- a view of which nothing is kept is written from the records
none-written : (v : View) → state_key_of v ≡ None → (records : WrittenView) × (v ≡ view.Written records)
none-written (view.Kept v) none = absurd (cc (none))
none-written (view.Written records) none = (records, refl)

fresh-stales : (old new : List (List ℕ × Shown)) → Stales old new → AreWrittenFresh old → AreWrittenFresh new
fresh-stales [] [] less fresh = tt
fresh-stales [] (w ∷ new) less fresh = absurd less
fresh-stales (v ∷ old) [] less fresh = absurd less
fresh-stales (v ∷ old) (w ∷ new) less fresh = (
  λ none.
      let was : state_key_of v.1.view ≡ None = ap state_key_of (sym less.0.1) ∙ none in
      let written = none-written v.1.view was in
      less.0.3 written.0 written.1 ∙ fresh.0 was,
  fresh-stales old new less.1 fresh.1,
)

fresh-fresher : (old new : List (List ℕ × Shown)) → Freshens old new → AreWrittenFresh old → AreWrittenFresh new
fresh-fresher [] [] less fresh = tt
fresh-fresher [] (w ∷ new) less fresh = absurd less
fresh-fresher (v ∷ old) [] less fresh = absurd less
fresh-fresher (v ∷ old) (w ∷ new) less fresh =
    (λ none. still w.1.stale v.1.stale less.0.2 (fresh.0 (ap state_key_of (sym less.0.1) ∙ none)), fresh-fresher old new less.1 fresh.1)
  where
    still : (b c : Bool) → (b ≡ true → c ≡ true) → c ≡ false → b ≡ false
    still false c up is = refl
    still true c up is = let both : true ≡ false = sym (up refl) ∙ is in absurd (cc (both))

-- a view that is stale is a kept view
pub stale-kept : (v : Shown) → IsWrittenFresh v → v.stale ≡ true → IsSome (state_key_of v.view)
stale-kept v fresh stale = by (state_key_of v.view) refl
  where
    by : (o : Option StateKey) → state_key_of v.view ≡ o → IsSome o
    by None none = let both : true ≡ false = sym stale ∙ fresh none in absurd (cc (both))
    by (Some what) is = refl

-- ---- what a session keeps true while its views become stale or current

pub session-stales : (g : Sequences) (track t : Tracked) (second : Option Tracked) (old new : List (List ℕ × Shown))
    → IsSession g track second old → IsTrackOn g t → Stales old new → IsSession g t second new
session-stales g track t second old new whole on less = record {
  track_is = on;
  second_is = whole.second_is;
  served = served-stales second old new less whole.served;
  fresh = fresh-stales old new less whole.fresh;
}

pub session-fresher : (g : Sequences) (track : Tracked) (second : Option Tracked) (old new : List (List ℕ × Shown))
    → IsSession g track second old → Freshens old new → IsSession g track second new
session-fresher g track second old new whole less = record {
  track_is = whole.track_is;
  second_is = whole.second_is;
  served = served-fresher second old new less whole.served;
  fresh = fresh-fresher old new less whole.fresh;
}

-- the views, that of one name current, or all of them
pub session-printed : (g : Sequences) (track : Tracked) (second : Option Tracked) (name : List ℕ) (old new : List (List ℕ × Shown))
    → IsSession g track second old → new ≡ with_current old name → IsSession g track second new
session-printed g track second name old new whole are =
    session-fresher g track second old new whole (subst (Freshens old) (sym are) (freshens-one old name))

pub session-all_printed : (g : Sequences) (track : Tracked) (second : Option Tracked) (old new : List (List ℕ × Shown))
    → IsSession g track second old → new ≡ all_current old → IsSession g track second new
session-all_printed g track second old new whole are =
    session-fresher g track second old new whole (subst (Freshens old) (sym are) (freshens-all old))

-- ---- the tracks of files

pub track-of_file : (g : Sequences) (file : Bed) (limit : ℕ) → (3 ≤ file.width) × (file.width ≤ 6) → All (Fits g file.width) file.records → length file.records ≤ limit
    → IsTrackOn g (tracked file limit)
track-of_file g file limit known fit few =
    let F : RecordValue → Type 0 = Fits g file.width in
    record {
      low = known.0;
      high = known.1;
      fit = ordered-all F file.records fit;
      few = few-ordered file.records limit few;
    }

pub second-of_file : (g : Sequences) (file : Option Bed) (limit : ℕ) → IfSome file (λ f. (3 ≤ f.width) × (f.width ≤ 6))
    → IfSome file (λ f. All (Fits g f.width) f.records) → IfSome file (λ f. length f.records ≤ limit)
    → IfSome (option_map (λ f. tracked f limit) file) (IsTrackOn g)
second-of_file g None limit known fit few = tt
second-of_file g (Some file) limit known fit few = track-of_file g file limit known fit few
