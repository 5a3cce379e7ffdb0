use Rattle.std.proofs.Common.{◌≡◌, ◌∙◌, false, true, refl, ap, sym, subst}
use Rattle.std.specs.Prelude.{IfNone, Option}
use Rattle.std.proofs.lemmas.Result.{err_from_is_err_and}
use Rattle.iv_bytes.proofs.PutLemmas.{Puts-finished, same-top}
use Rattle.iv_view.specs.declared.view.View.{View}
use Rattle.iv_workspace.specs.Inside.ViewStates.{IsKept, all_owned, all_seen}
use Rattle.iv_workspace.specs.OpenViews.{current, with_current}
use Rattle.iv_workspace.specs.States.{State}
use Rattle.iv_workspace.specs.Inside.States.{IsServed, IsWrittenFresh}
use Rattle.iv_workspace.specs.Views.{view_named}
use Rattle.iv_workspace.proofs.OpenViewLemmas.{all-named}
use Rattle.iv_workspace.proofs.PrintLemmas.{match-none, match-some, view-found, view-none, some-and, current-found, same-text, Puts-text, view-answered}
use Rattle.iv_workspace.proofs.StepLemmas.{none-within, stale-within, named-within}
use Rattle.iv_workspace.proofs.SessionLemmas.{session-printed, stale-kept, views-changed}
use Rattle.iv_workspace.proofs.session.Session.print_view_counted.Goals as goal

pub returns-in_default-clause-printed : goal.returns-in_default-clause-printed
returns-in_default-clause-printed g c =
    let none = view-none _ (sym c.in_default.is ∙ c.in_ok-view.ensures.view) in
    let same = subst (λ (o : Option View). IfNone o (c.refresh.new.self ≡ c.self.inside.views)) c.in_default.is c.in_ok-view.ensures.none in
    match-none _ _ _ (none ∙ ap (λ (s : State). view_named s.views c.args.name.now) c.self.view_is)
    (refl, refl, views-changed (λ views. views) _ c.args.self.now (all_seen c.refresh.new.self) c.self.view_is (ap all_seen same))

pub returns-in_err-view-clause-printed : goal.returns-in_err-view-clause-printed
returns-in_err-view-clause-printed g c =
    let p = err_from_is_err_and c.from_residual.result c.from_residual.ensures.1 in
    let found = some-and _ (λ v. v.stale ≡ true) c.in_err-view.ensures.stale in
    let fresh = all-named IsWrittenFresh c.args.name.now (all_seen c.self.inside.views) found.0 (sym found.1) c.self.invariant.0.fresh in
    let same = views-changed (λ views. views) _ c.args.self.now (all_seen c.refresh.new.self) c.self.view_is (ap all_seen c.in_err-view.ensures.err) in
    rw (p.1, p.2)
    (match-some _ _ _ found.0 (found.1 ∙ ap (λ (s : State). view_named s.views c.args.name.now) c.self.view_is)
    (found.2, stale-kept found.0 fresh found.2, refl, same))

pub put-requires-clause-kept : goal.put-requires-clause-kept
put-requires-clause-kept g c =
    let views = all_seen c.refresh.new.self in
    let found = view-found _ c.in-Some.view (sym c.in-Some.is ∙ c.in_ok-view.ensures.view) in
    let again = current-found c.args.name.now (all_seen c.self.inside.views) views found.0 found.1 c.in_ok-view.ensures.ok in
    subst (IsKept (all_owned c.refresh.new.self)) (sym found.2)
    (all-named (λ v. v.stale ≡ false → IsKept (all_owned c.refresh.new.self) v.view) c.args.name.now views (current found.0) again c.refresh.ensures.right.1 refl)

pub put-requires-clause-served : goal.put-requires-clause-served
put-requires-clause-served g c =
    let inside = c.self.inside in
    let found = view-found _ c.in-Some.view (sym c.in-Some.is ∙ c.in_ok-view.ensures.view) in
    rw c.as_ref-second.ensures.value
    (subst (IsServed inside.second) (sym found.2)
    (all-named (λ v. IsServed inside.second v.view) c.args.name.now (all_seen inside.views) found.0 (sym found.1) c.self.invariant.0.served))

pub returns-clause-printed : goal.returns-clause-printed
returns-clause-printed g c =
    let found = view-found _ c.in-Some.view (sym c.in-Some.is ∙ c.in_ok-view.ensures.view) in
    let text = same-text c.args.part _ c.args.self.now found.0 c.in-Some.view c.self.view_is found.2 in
    let took = rw (c.new-buffer.ensures.same, c.new-buffer.ensures.empty) at c.in_ok-put.ensures.text in
    let named : c.put.new.sink.sink.ghost_name ≡ c.new-buffer.result.sink.ghost_name = (same-top _ _ _ _ _ _ took.moved.same).0 in
    let same = c.sink-2-1.given.1 (sym c.new-buffer.ensures.same_reference ∙ sym named) in
    let puts = Puts-text _ _ c.finish.result _ _ text
    (rw (c.as_ref-second.ensures.value, c.as_ref-fasta.ensures.value) at (Puts-finished _ _ _ _ _ _ _ c.finish.result took c.finish.ensures)) in
    rw same
    (match-some _ _ _ found.0 (found.1 ∙ ap (λ (s : State). view_named s.views c.args.name.now) c.self.view_is)
    (view-answered c.args.part _ _ c.args.name.now found.0 _ _ c.finish.result _ c.answer_of.ensures puts
    (views-changed (λ views. with_current views c.args.name.now) _ c.args.self.now (all_seen c.refresh.new.self) c.self.view_is c.in_ok-view.ensures.ok)))

pub invariant_of-self-in_err-put : goal.invariant_of-self-in_err-put
invariant_of-self-in_err-put g c = (
  session-printed c.self.inside.genome c.self.inside.track c.self.inside.second c.args.name.now (all_seen c.self.inside.views) (all_seen c.refresh.new.self) c.self.invariant.0
      c.in_ok-view.ensures.ok,
  c.refresh.ensures.right,
)

pub invariant_of-self-2 : goal.invariant_of-self-2
invariant_of-self-2 g c = (
  session-printed c.self.inside.genome c.self.inside.track c.self.inside.second c.args.name.now (all_seen c.self.inside.views) (all_seen c.refresh.new.self) c.self.invariant.0
      c.in_ok-view.ensures.ok,
  c.refresh.ensures.right,
)

-- ---- steps

pub returns-in_default-clause-steps : goal.returns-in_default-clause-steps
returns-in_default-clause-steps g c =
    let none = view-none _ (sym c.in_default.is ∙ c.in_ok-view.ensures.view) ∙ ap (λ (s : State). view_named s.views c.args.name.now) c.self.view_is in
    none-within c.args.part _ _ _ _ _ _ (ap (λ (s : State). view_named s.views c.args.name.now) c.self.view_is) none c.refresh.ensures.steps

pub returns-in_err-view-clause-steps : goal.returns-in_err-view-clause-steps
returns-in_err-view-clause-steps g c =
    let found = some-and _ (λ v. v.stale ≡ true) c.in_err-view.ensures.stale in
    stale-within c.args.part _ _ _ _ _ found.0 (found.1 ∙ ap (λ (s : State). view_named s.views c.args.name.now) c.self.view_is) found.2

pub returns-in_err-put-clause-steps : goal.returns-in_err-put-clause-steps
returns-in_err-put-clause-steps g c =
    let found = view-found _ c.in-Some.view (sym c.in-Some.is ∙ c.in_ok-view.ensures.view) in
    named-within c.args.part _ c.args.self.now c.args.name.now _ _ _ found.0 c.in-Some.view c.self.view_is found.1 found.2 c.refresh.ensures.steps c.put.ensures.steps

pub returns-clause-steps : goal.returns-clause-steps
returns-clause-steps g c =
    let found = view-found _ c.in-Some.view (sym c.in-Some.is ∙ c.in_ok-view.ensures.view) in
    named-within c.args.part _ c.args.self.now c.args.name.now _ _ _ found.0 c.in-Some.view c.self.view_is found.1 found.2 c.refresh.ensures.steps c.put.ensures.steps
