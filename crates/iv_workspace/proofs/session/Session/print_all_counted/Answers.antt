use Rattle.std.proofs.Common.{◌≡◌, ◌∙◌, ◌<◌, refl, ap, sym, subst, arith}
use Rattle.std.proofs.lemmas.Result.{err_from_is_err_and}
use Rattle.iv_bytes.proofs.PutLemmas.{Puts-finished, FailsIn-given_up, same-top}
use Rattle.std.specs.Prelude.{IfSome}
use Rattle.iv_view.specs.RegionText.{IsWithin}
use Rattle.iv_workspace.specs.Inside.ViewStates.{all_seen}
use Rattle.iv_workspace.specs.OpenViews.{Freshens, all_current, stale_count}
use Rattle.iv_workspace.specs.States.{State}
use Rattle.iv_workspace.specs.Views.{all_text}
use Rattle.iv_workspace.proofs.PrintLemmas.{all-fresh, same-all_text, FailsIn-text, Puts-text, all-answered}
use Rattle.iv_workspace.proofs.StepLemmas.{printed-within}
use Rattle.iv_workspace.proofs.SessionLemmas.{session-fresher, session-all_printed, views-changed}
use Rattle.iv_workspace.proofs.session.Session.print_all_counted.Goals as goal

pub returns-in_err-refresh_all-clause-printed : goal.returns-in_err-refresh_all-clause-printed
returns-in_err-refresh_all-clause-printed g c =
    let p = err_from_is_err_and c.from_residual.result c.from_residual.ensures.1 in
    let more = all_seen c.refresh_all.new.self in
    rw (p.1, p.2) (
      subst (λ (s : State). 0 < stale_count s.views) c.self.view_is c.in_err-refresh_all.ensures.stale,
      refl,
      (ap (λ (s : State). record s { views = more }) c.self.view_is, subst (λ (s : State). Freshens s.views more) c.self.view_is c.in_err-refresh_all.ensures.err),
    )

pub put_views-requires : goal.put_views-requires
put_views-requires g c = record {
  fresh = all-fresh (all_seen c.self.inside.views) (all_seen c.refresh_all.new.self) c.in_ok-refresh_all.ensures.ok;
  within = subst (λ (s : State). IfSome c.args.part (IsWithin s.genome)) (sym c.self.view_is) c.requires;
}

pub returns-in_err-put_views-clause-printed : goal.returns-in_err-put_views-clause-printed
returns-in_err-put_views-clause-printed g c =
    let p = err_from_is_err_and c.from_residual-in_err-put_views.result c.from_residual-in_err-put_views.ensures.1 in
    let new = views-changed all_current _ c.args.self.now (all_seen c.refresh_all.new.self) c.self.view_is c.in_ok-refresh_all.ensures.ok in
    let failed = rw (c.new-buffer.ensures.same, c.new-buffer.ensures.empty) at c.in_err-put_views.ensures.text in
    let named : c.put_views.new.sink.sink.ghost_name ≡ c.new-buffer.result.sink.ghost_name = (same-top _ _ _ _ _ _ failed.same).0 in
    let same = c.in_err-put_views.sink-1-own.given.1 (sym c.new-buffer.ensures.same_reference ∙ sym named) in
    rw (p.1, p.2, same) (FailsIn-text _ _ _ _ (ap (all_text c.args.part) new ∙ same-all_text c.args.part c.args.self.now) (FailsIn-given_up _ _ _ _ _ _ failed), new)

pub returns-clause-printed : goal.returns-clause-printed
returns-clause-printed g c =
    let new = views-changed all_current _ c.args.self.now (all_seen c.refresh_all.new.self) c.self.view_is c.in_ok-refresh_all.ensures.ok in
    let took = rw (c.new-buffer.ensures.same, c.new-buffer.ensures.empty) at c.in_ok-put_views.ensures.text in
    let named : c.put_views.new.sink.sink.ghost_name ≡ c.new-buffer.result.sink.ghost_name = (same-top _ _ _ _ _ _ took.moved.same).0 in
    let same = c.sink-2-1.given.1 (sym c.new-buffer.ensures.same_reference ∙ sym named) in
    let text = ap (all_text c.args.part) new ∙ same-all_text c.args.part c.args.self.now in
    rw same (all-answered c.args.part _ _ _ _ c.finish.result _ c.answer_of.ensures (Puts-text _ _ c.finish.result _ _ text (Puts-finished _ _ _ _ _ _ _ c.finish.result took c.finish.ensures)) new)

pub invariant_of-self : goal.invariant_of-self
invariant_of-self g c = (
  session-fresher c.self.inside.genome c.self.inside.track c.self.inside.second (all_seen c.self.inside.views) (all_seen c.refresh_all.new.self) c.self.invariant.0
      c.in_err-refresh_all.ensures.err,
  c.refresh_all.ensures.right,
)

pub invariant_of-self-2 : goal.invariant_of-self-2
invariant_of-self-2 g c = (
  session-all_printed c.self.inside.genome c.self.inside.track c.self.inside.second (all_seen c.self.inside.views) (all_seen c.refresh_all.new.self) c.self.invariant.0
      c.in_ok-refresh_all.ensures.ok,
  c.refresh_all.ensures.right,
)

-- ---- steps

pub returns-in_err-refresh_all-clause-steps : goal.returns-in_err-refresh_all-clause-steps
returns-in_err-refresh_all-clause-steps g c =
    let some = subst (λ (s : State). 0 < stale_count s.views) c.self.view_is c.in_err-refresh_all.ensures.stale in
    λ fresh. absurd (omega (arith, some, fresh))

pub returns-in_err-put_views-clause-steps : goal.returns-in_err-put_views-clause-steps
returns-in_err-put_views-clause-steps g c =
    printed-within c.args.part _ c.args.self.now (all_seen c.refresh_all.new.self) _ _ _ c.self.view_is c.in_ok-refresh_all.ensures.ok c.refresh_all.ensures.steps c.put_views.ensures.steps

pub returns-clause-steps : goal.returns-clause-steps
returns-clause-steps g c =
    printed-within c.args.part _ c.args.self.now (all_seen c.refresh_all.new.self) _ _ _ c.self.view_is c.in_ok-refresh_all.ensures.ok c.refresh_all.ensures.steps c.put_views.ensures.steps
