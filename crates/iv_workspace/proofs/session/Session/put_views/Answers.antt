use Rattle.std.proofs.Common.{◌≡◌, ◌∙◌, ◌+◌, drop, false, slice_get, sym, ap, arith}
use Rattle.iv_bytes.proofs.PutLemmas.{Underway-begin, Underway-fails, Underway-more, Puts-err}
use Rattle.iv_workspace.specs.Inside.ViewStates.{IsKept, all_owned, all_seen, seen}
use Rattle.iv_workspace.specs.States.{State}
use Rattle.iv_workspace.specs.Inside.States.{IsServed}
use Rattle.iv_workspace.specs.Views.{text_in}
use Rattle.iv_workspace.proofs.OpenViewLemmas.{all-at}
use Rattle.iv_workspace.proofs.PrintLemmas.{seen-at, all-get, past-views, views-next, Takes-text, FailsIn-text}
use Rattle.iv_workspace.proofs.StepLemmas.{next-within, nothing-taken}
use Rattle.iv_workspace.proofs.session.Session.put_views.Goals as goal

pub loop-index-init : goal.loop-index-init
loop-index-init g c = (Underway-begin _ _, λ m rest. rest)

pub returns-in_err-put_heading-clause-text : goal.returns-in_err-put_heading-clause-text
returns-in_err-put_heading-clause-text g c =
    let inside = c.self.inside in
    let next = views-next c.args.part _ _ c.self.view_is c.loop-index.index (c.in-Some.name.now, seen c.in-Some.opened.now)
    (seen-at inside.views c.loop-index.index c.in-Some.name.now c.in-Some.opened.now c.in-Some.ensures) in
    Puts-err _ _ c.from_residual.result _ c.from_residual.ensures.0
    (Underway-fails _ _ _ _ _ _ (rw next at c.loop-index.invariant.0) c.in_err-put_heading.ensures)

pub put-requires-clause-kept : goal.put-requires-clause-kept
put-requires-clause-kept g c =
    let inside = c.self.inside in
    let found = seen-at inside.views c.loop-index.index c.in-Some.name.now c.in-Some.opened.now c.in-Some.ensures in
    let fresh = all-get (λ v. v.1.stale ≡ false) c.args.self.now.views c.loop-index.index (c.in-Some.name.now, seen c.in-Some.opened.now)
    (found ∙ ap (λ (s : State). slice_get s.views c.loop-index.index) c.self.view_is) c.requires.fresh in
    all-at (λ v. v.stale ≡ false → IsKept (all_owned inside.views) v.view) (all_seen inside.views) c.loop-index.index (c.in-Some.name.now, seen c.in-Some.opened.now) (sym found) c.self.invariant.1.1 fresh

pub returns-in_err-put-clause-text : goal.returns-in_err-put-clause-text
returns-in_err-put-clause-text g c =
    let inside = c.self.inside in
    let next = views-next c.args.part _ _ c.self.view_is c.loop-index.index (c.in-Some.name.now, seen c.in-Some.opened.now)
    (seen-at inside.views c.loop-index.index c.in-Some.name.now c.in-Some.opened.now c.in-Some.ensures) in
    let text = ap (λ (s : State). text_in c.args.part s c.in-Some.opened.now.view) c.self.view_is in
    let headed = Underway-more _ _ _ _ _ _ (rw next at c.loop-index.invariant.0) c.in_ok-put_heading.ensures in
    Puts-err _ _ c.from_residual-in_err-put.result _ c.from_residual-in_err-put.ensures.0
    (Underway-fails _ _ _ _ _ _ headed (FailsIn-text _ _ _ _ text (rw (c.as_ref-second.ensures.value, c.as_ref-fasta.ensures.value) at c.in_err-put.ensures.text)))

pub loop-index-preserved : goal.loop-index-preserved
loop-index-preserved g c =
    let inside = c.self.inside in
    let next = views-next c.args.part _ _ c.self.view_is c.loop-index.index (c.in-Some.name.now, seen c.in-Some.opened.now)
    (seen-at inside.views c.loop-index.index c.in-Some.name.now c.in-Some.opened.now c.in-Some.ensures) in
    let text = ap (λ (s : State). text_in c.args.part s c.in-Some.opened.now.view) c.self.view_is in
    let headed = Underway-more _ _ _ _ _ _ (rw next at c.loop-index.invariant.0) c.in_ok-put_heading.ensures in (
      Underway-more _ _ _ _ _ _ headed (Takes-text _ _ _ _ text (rw (c.as_ref-second.ensures.value, c.as_ref-fasta.ensures.value) at c.in_ok-put.ensures.text)),
      next-within c.args.part _ c.args.self.now c.loop-index.index (c.in-Some.name.now, seen c.in-Some.opened.now) _ _ _ c.self.view_is
          (seen-at inside.views c.loop-index.index c.in-Some.name.now c.in-Some.opened.now c.in-Some.ensures) c.loop-index.invariant.1 c.put.ensures.steps,
    )

pub returns-in_default-clause-text : goal.returns-in_default-clause-text
returns-in_default-clause-text g c =
    let past = past-views c.self.inside.views c.loop-index.index c.in_default.ensures in
    absurd (omega (arith, past, c.loop-index-test.true, c.len-index-end.ensures.value))

pub returns-in_default-clause-steps : goal.returns-in_default-clause-steps
returns-in_default-clause-steps g c =
    let past = past-views c.self.inside.views c.loop-index.index c.in_default.ensures in
    absurd (omega (arith, past, c.loop-index-test.true, c.len-index-end.ensures.value))

pub returns-in_err-put_heading-clause-steps : goal.returns-in_err-put_heading-clause-steps
returns-in_err-put_heading-clause-steps g c =
    c.loop-index.invariant.1 c.loop-index.meter (nothing-taken c.args.part (drop c.loop-index.index c.args.self.now.views) _ _ _)

pub returns-in_err-put-clause-steps : goal.returns-in_err-put-clause-steps
returns-in_err-put-clause-steps g c =
    let inside = c.self.inside in
    let next = next-within c.args.part _ c.args.self.now c.loop-index.index (c.in-Some.name.now, seen c.in-Some.opened.now) _ _ _ c.self.view_is
    (seen-at inside.views c.loop-index.index c.in-Some.name.now c.in-Some.opened.now c.in-Some.ensures) c.loop-index.invariant.1 c.put.ensures.steps in
    next _ (nothing-taken c.args.part (drop (c.loop-index.index + 1) c.args.self.now.views) _ _ _)

pub returns-after-loop-index-clause-steps : goal.returns-after-loop-index-clause-steps
returns-after-loop-index-clause-steps g c =
    c.loop-index.invariant.1 c.loop-index.meter (nothing-taken c.args.part (drop c.loop-index.index c.args.self.now.views) _ _ _)

pub put-requires-clause-served : goal.put-requires-clause-served
put-requires-clause-served g c =
    let inside = c.self.inside in
    let view = c.in-Some.opened.now in
    let found = seen-at inside.views c.loop-index.index c.in-Some.name.now view c.in-Some.ensures in
    rw c.as_ref-second.ensures.value
    (all-at (λ v. IsServed inside.second v.view) (all_seen inside.views) c.loop-index.index (c.in-Some.name.now, seen view) (sym found) c.self.invariant.0.served)
