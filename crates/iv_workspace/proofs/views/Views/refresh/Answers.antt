use Rattle.std.proofs.Common.{◌≡◌, ◌∙◌, inl, refl, ap, sym, subst}
use Rattle.std.specs.Map.{lookup}
use Rattle.std.specs.Option.{option_map}
use Rattle.std.specs.Str.{bytes_eq}
use Rattle.iv_bytes.proofs.PutLemmas.{OnErr-all}
use Rattle.iv_workspace.specs.Inside.ViewStates.{all_seen, current_at}
use Rattle.iv_workspace.specs.OpenViews.{with_current}
use Rattle.iv_workspace.proofs.OpenViewLemmas.{seen-view}
use Rattle.iv_workspace.proofs.StateLemmas.{placed-current, stale-named, unplaced}
use Rattle.iv_workspace.proofs.StepLemmas.{named-stale}
use Rattle.iv_workspace.proofs.views.Views.refresh.Goals as goal

pub returns-clause-view : goal.returns-clause-view
returns-clause-view g c =
    ap (option_map (λ v. v.view)) (c.in-Some.ensures.value ∙ ap (lookup (bytes_eq c.args.name.now)) c.self.view_is) ∙ seen-view c.args.name.now c.args.self.now

pub returns-in_default-clause-view : goal.returns-in_default-clause-view
returns-in_default-clause-view g c =
    ap (option_map (λ v. v.view)) (c.in_default.ensures.value ∙ ap (lookup (bytes_eq c.args.name.now)) c.self.view_is) ∙ seen-view c.args.name.now c.args.self.now

pub returns-clause-ok : goal.returns-clause-ok
returns-clause-ok g c =
    let is = placed-current c.args.name.now c.self.inside.views c.in-Some.index (sym c.in-Some.ensures.index) in
    c.in_ok-refresh_at.ensures.ok ∙ subst (λ l. current_at c.in-Some.index (all_seen l) ≡ with_current (all_seen l) c.args.name.now) c.self.view_is is

pub returns-in_default-clause-ok : goal.returns-in_default-clause-ok
returns-in_default-clause-ok g c =
    subst (λ l. all_seen l ≡ with_current (all_seen l) c.args.name.now) c.self.view_is
    (unplaced c.args.name.now c.self.inside.views (sym c.in_default.ensures.index))

pub returns-in_err-refresh_at-clause-stale : goal.returns-in_err-refresh_at-clause-stale
returns-in_err-refresh_at-clause-stale g c =
    OnErr-all c.from_residual.result
    (stale-named c.args.name.now _ _ c.in-Some.index _ c.self.view_is c.in-Some.ensures.index c.in-Some.ensures.value c.in_err-refresh_at.ensures.stale)

pub returns-in_default-clause-steps : goal.returns-in_default-clause-steps
returns-in_default-clause-steps g c = inl refl

pub returns-in_err-refresh_at-clause-steps : goal.returns-in_err-refresh_at-clause-steps
returns-in_err-refresh_at-clause-steps g c =
    named-stale _ _ c.args.name.now _ _ c.in-Some.index _ c.self.view_is c.in-Some.ensures.index c.in-Some.ensures.value c.refresh_at.ensures.steps

pub returns-clause-steps : goal.returns-clause-steps
returns-clause-steps g c =
    named-stale _ _ c.args.name.now _ _ c.in-Some.index _ c.self.view_is c.in-Some.ensures.index c.in-Some.ensures.value c.refresh_at.ensures.steps
