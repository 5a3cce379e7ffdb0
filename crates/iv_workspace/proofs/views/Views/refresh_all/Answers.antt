use Rattle.std.proofs.Common.{◌≡◌, ◌∙◌, inl, refl, true, add-one, ap, slice_get, subst, sym, length, arith}
use Rattle.std.specs.Prelude.{IfSome}
use Rattle.iv_bytes.proofs.PutLemmas.{OnErr-all}
use Rattle.iv_workspace.specs.Inside.ViewStates.{all_seen, current_at}
use Rattle.iv_workspace.specs.OpenViews.{Freshens}
use Rattle.iv_workspace.proofs.StateLemmas.{current_to, current-none, current-next, current-length, current-all, current-freshens, seen-length, stale-among}
use Rattle.iv_workspace.proofs.StepLemmas.{either-stale}
use Rattle.iv_workspace.proofs.views.Views.refresh_all.Goals as goal

pub loop-index-init : goal.loop-index-init
loop-index-init g c = (
  c.requires.right,
  current-none (all_seen c.args.self.now),
  omega (arith, c.len-index-end.ensures.value, ap length c.self.view_is),
  inl refl,
)

pub refresh_at-requires-clause-within : goal.refresh_at-requires-clause-within
refresh_at-requires-clause-within g c = omega (arith, c.loop-index-test.true, c.loop-index.invariant.2, current-length c.args.self.now c.loop-index.self c.loop-index.index c.loop-index.invariant.1)

pub returns-in_err-refresh_at-clause-err : goal.returns-in_err-refresh_at-clause-err
returns-in_err-refresh_at-clause-err g c =
    OnErr-all c.from_residual.result
    (subst (λ l. Freshens (all_seen c.args.self.now) l) (sym (ap all_seen c.in_err-refresh_at.ensures.err ∙ c.loop-index.invariant.1)) (current-freshens c.loop-index.index (all_seen c.args.self.now)))

pub returns-in_err-refresh_at-clause-stale : goal.returns-in_err-refresh_at-clause-stale
returns-in_err-refresh_at-clause-stale g c =
    OnErr-all c.from_residual.result
    (stale-among c.loop-index.index c.loop-index.index (all_seen c.args.self.now)
    (subst (λ l. IfSome (slice_get l c.loop-index.index) (λ v. v.1.stale ≡ true)) c.loop-index.invariant.1 c.in_err-refresh_at.ensures.stale)
    (omega (arith, c.loop-index-test.true, c.loop-index.invariant.2, seen-length c.args.self.now)))

pub loop-index-preserved : goal.loop-index-preserved
loop-index-preserved g c = (
  c.refresh_at.ensures.right,
  c.in_ok-refresh_at.ensures.ok ∙ ap (current_at c.loop-index.index) c.loop-index.invariant.1 ∙ current-next c.loop-index.index (all_seen c.args.self.now)
      ∙ ap (λ k. current_to k (all_seen c.args.self.now)) (sym (add-one c.loop-index.index)),
  c.loop-index.invariant.2,
  either-stale c.loop-index.meter c.refresh_at.new.meter c.args.meter.now c.loop-index.index c.args.self.now (all_seen c.loop-index.self) c.loop-index.invariant.1
      (omega (arith, c.loop-index-test.true, c.loop-index.invariant.2, seen-length c.args.self.now)) c.loop-index.invariant.3 c.refresh_at.ensures.steps,
)

pub returns-clause-ok : goal.returns-clause-ok
returns-clause-ok g c = c.loop-index.invariant.1 ∙ current-all c.loop-index.index (all_seen c.args.self.now) (omega (arith, c.loop-index-test.false, c.loop-index.invariant.2, seen-length c.args.self.now))

pub returns-in_err-refresh_at-clause-steps : goal.returns-in_err-refresh_at-clause-steps
returns-in_err-refresh_at-clause-steps g c =
    either-stale c.loop-index.meter c.refresh_at.new.meter c.args.meter.now c.loop-index.index c.args.self.now (all_seen c.loop-index.self) c.loop-index.invariant.1
    (omega (arith, c.loop-index-test.true, c.loop-index.invariant.2, seen-length c.args.self.now)) c.loop-index.invariant.3 c.refresh_at.ensures.steps

pub returns-clause-steps : goal.returns-clause-steps
returns-clause-steps g c = c.loop-index.invariant.3
