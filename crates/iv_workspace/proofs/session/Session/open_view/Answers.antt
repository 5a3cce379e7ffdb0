use Rattle.std.proofs.Common.{◌≡◌, ◌∙◌, ℕ, ◌<◌, List, [], ◌∷◌, ◌++◌, Ok, true, false, length, map, arith, refl, sym, subst}
use Rattle.std.specs.Option.{is_some}
use Rattle.std.proofs.lemmas.List.{length-map}
use Rattle.iv_view.specs.Arguments.{read_arguments}
use Rattle.iv_view.proofs.ArgumentLemmas.{needs-there}
use Rattle.iv_workspace.specs.Inside.ViewStates.{all_seen, seen}
use Rattle.iv_workspace.specs.declared.views.OpenView.{OpenView}
use Rattle.iv_workspace.specs.OpenViews.{Shown}
use Rattle.iv_workspace.specs.Inside.States.{IsServed, AreServed, IsWrittenFresh, AreWrittenFresh}
use Rattle.iv_workspace.specs.Views.{is_view_name, view_named}
use Rattle.iv_workspace.proofs.OpenViewLemmas.{all-pushed}
use Rattle.iv_workspace.proofs.SessionLemmas.{no-name_fault, views-changed}
use Rattle.iv_workspace.proofs.session.Session.open_view.Goals as goal

pub invariant_of-self-2 : goal.invariant_of-self-2
invariant_of-self-2 g c =
    let i = c.self.inside in
    let name = c.args.name.now in
    let arguments : List (List ℕ) = map (λ argument. argument.now) c.args.arguments.now in
    let view = c.in_ok-view.view in
    let said : read_arguments c.width.result (is_some i.second) c.is_some-has_bases.result arguments ≡ Ok view = rw (sym c.is_some-has_second.ensures) (sym c.read.ensures ∙ c.in_ok-view.was) in
    let served : IsServed i.second view = needs-there c.width.result (is_some i.second) c.is_some-has_bases.result arguments view said in (
      record {
        track_is = c.self.invariant.0.track_is;
        second_is = c.self.invariant.0.second_is;
        served = subst (AreServed i.second) (sym c.in_ok-open.ensures.ok)
            (all-pushed (λ v. IsServed i.second v.view) name (all_seen i.views) (record { view = view; stale = false }) c.self.invariant.0.served served);
        fresh = subst AreWrittenFresh (sym c.in_ok-open.ensures.ok)
            (all-pushed IsWrittenFresh name (all_seen i.views) (record { view = view; stale = false }) c.self.invariant.0.fresh (λ none. refl));
      },
      c.in_ok-open.ensures.right,
    )

pub returns-clause-ok : goal.returns-clause-ok
returns-clause-ok g c =
    let i = c.self.inside in
    let name = c.args.name.now in
    let arguments : List (List ℕ) = map (λ argument. argument.now) c.args.arguments.now in
    let view = c.in_ok-view.view in
    let said : read_arguments i.track.width (is_some i.second) (is_some i.fasta) arguments ≡ Ok view =
    rw (sym c.width.ensures, sym c.is_some-has_second.ensures, sym c.is_some-has_bases.ensures) (sym c.read.ensures ∙ c.in_ok-view.was) in
    let few : length (all_seen i.views) < 64 = omega (arith, c.if-len-ge-MOST_VIEWS.false, c.len.ensures.value, length-map {B = List ℕ × Shown} i.views (λ (v : List ℕ × OpenView _). (v.0, seen v.1))) in
    let good : is_view_name name ≡ true = sym c.is_view_name.ensures ∙ c.if-not-is_view_name.false in
    let free : is_some (view_named (all_seen i.views) name) ≡ false = sym c.if-contains.ensures.seen in (
      view,
      no-name_fault _ c.args.self.now name arguments view c.self.view_is good free few said,
      c.pack.ensures
          ∙ views-changed (λ views. views ++ (name, record { view = view; stale = false }) ∷ []) _ c.args.self.now (all_seen c.open.new.self) c.self.view_is
          c.in_ok-open.ensures.ok,
    )
