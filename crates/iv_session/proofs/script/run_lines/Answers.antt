use Rattle.std.proofs.Common.{◌≡◌, ◌+◌, ◌-◌, ◌≤◌, ap, arith, refl}
use Rattle.std.proofs.lemmas.Result.{err_from_is_err_and}
use Rattle.iv_session.specs.declared.script.Summary.{Summary}
use Rattle.iv_session.proofs.ScriptLemmas.{Going-begin, Going-more, Done-end, Done-last}
use Rattle.iv_session.proofs.StopLemmas.{Stopped-line, Stopped-sink}
use Rattle.iv_session.proofs.script.run_lines.Goals as goal

pub lines-init : goal.lines-init
lines-init g c =
    let none = ap (λ (s : Summary). s.lines) c.requires in
    (rw (c.new-held.ensures, c.requires) (Going-begin _ _ _), omega (arith, none), omega arith)

pub returns-in_default-clause-done : goal.returns-in_default-clause-done
returns-in_default-clause-done g c =
    let none = rw c.in_default.is at c.in_ok-ended.ensures.ok in
    let few : c.lines.counts.lines ≤ c.args.limits.now.lines = omega (arith, c.lines.invariant.1) in
    Done-end _ _ _ _ _ _ _ _ _ c.lines.counts.lines c.lines.counts.refused c.lines.invariant.0 few none refl refl

pub returns-in_err-ended-clause-stopped : goal.returns-in_err-ended-clause-stopped
returns-in_err-ended-clause-stopped g c =
    let p = err_from_is_err_and c.from_residual.result c.from_residual.ensures.1 in
    let counted : c.lines.counts.lines + (c.args.limits.now.lines - c.lines.counts.lines) ≡ c.args.limits.now.lines =
    omega (arith, c.lines.invariant.1) in
    rw (p.1, p.2)
    (Stopped-line _ _ _ _ _ _ c.lines.counts.lines c.lines.counts.refused _ _ _ _ c.lines.invariant.0 counted
    c.in_err-ended.ensures.err refl refl)

pub returns-in_err-outcome-clause-stopped : goal.returns-in_err-outcome-clause-stopped
returns-in_err-outcome-clause-stopped g c =
    let p = err_from_is_err_and c.from_residual-in_err-outcome.result c.from_residual-in_err-outcome.ensures.1 in
    let next = rw c.in-Some.is at c.in_ok-ended.ensures.ok in
    let failed = rw c.as_slice.ensures.value at c.in_err-outcome.ensures in
    let room : c.lines.counts.lines + 1 ≤ c.args.limits.now.lines = omega (arith, next.0, c.lines.invariant.1) in
    rw (p.1, p.2)
    (Stopped-sink _ _ _ _ _ _ _ _ c.lines.counts.lines c.lines.counts.refused _ _ c.in-Some.ended _ _ c.lines.invariant.0 room next.1 failed)

pub returns-then-not-ended-clause-done : goal.returns-then-not-ended-clause-done
returns-then-not-ended-clause-done g c =
    let next = rw c.in-Some.is at c.in_ok-ended.ensures.ok in
    let read = rw c.if-not-ended.true at next.1 in
    let ran = rw c.as_slice.ensures.value at c.in_ok-outcome.ensures in
    let room : c.lines.counts.lines + 1 ≤ c.args.limits.now.lines = omega (arith, next.0, c.lines.invariant.1) in
    rw c.refusals.ensures
    (Done-last _ _ _ _ _ _ _ _ _ _ c.lines.counts.lines c.lines.counts.refused _ c.in_ok-outcome.outcome c.lines.invariant.0 room read ran)

pub lines-preserved : goal.lines-preserved
lines-preserved g c =
    let next = rw c.in-Some.is at c.in_ok-ended.ensures.ok in
    let read = rw c.if-not-ended.false at next.1 in
    let ran = rw c.as_slice.ensures.value at c.in_ok-outcome.ensures in (
      rw c.refusals.ensures
          (Going-more _ _ _ _ _ _ _ _ c.lines.counts.lines c.lines.counts.refused _ _ c.in_ok-outcome.outcome c.lines.invariant.0 read ran),
      omega (arith, next.0, c.lines.invariant.1),
      c.lines.invariant.2,
    )
