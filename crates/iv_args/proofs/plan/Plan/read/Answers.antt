use Rattle.std.proofs.lemmas.Result.{err_from_is_err_and, IfErr-weaker, IfOk-weaker}
use Rattle.iv_args.proofs.ArgumentLemmas.{accept-from, none-taken, none-made}
use Rattle.iv_args.proofs.plan.Plan.read.Goals as goal

pub returns-in_err-take_all-clause-err : goal.returns-in_err-take_all-clause-err
returns-in_err-take_all-clause-err g c =
    let p = err_from_is_err_and c.from_residual-in_err-take_all.result c.from_residual-in_err-take_all.ensures.1 in
    rw (p.1, p.2, c.in-Some.ensures.cases.0)
    (none-taken c.in-Some.argument.now.now _ c.in-Some-of.run' c.in-Some-of.ensures _ _ c.in_ok-draft.ensures.ok c.in_err-take_all.ensures.err)

pub returns-clause-ok : goal.returns-clause-ok
returns-clause-ok g c =
    rw c.in-Some.ensures.cases.0
    (IfOk-weaker c.plan_of.result _ _
    (λ plan made. accept-from c.in-Some.argument.now.now _ c.in-Some-of.run' c.in-Some-of.ensures _ _ plan c.in_ok-draft.ensures.ok c.in_ok-take_all.ensures.ok made)
    c.plan_of.ensures.ok)

pub returns-clause-err : goal.returns-clause-err
returns-clause-err g c =
    rw c.in-Some.ensures.cases.0
    (IfErr-weaker c.plan_of.result _ _
    (λ why refused. none-made c.in-Some.argument.now.now _ c.in-Some-of.run' c.in-Some-of.ensures _ _ why c.in_ok-draft.ensures.ok c.in_ok-take_all.ensures.ok refused)
    c.plan_of.ensures.err)
