use Rattle.std.proofs.Common.{sym}
use Rattle.std.proofs.lemmas.Result.{err_from_is_err_and}
use Rattle.iv_run.proofs.WantedLemmas.{held-fault, held-text}
use Rattle.iv_run.proofs.run.shot_of_held.Goals as goal

pub returns-in_err-view : goal.returns-in_err-view
returns-in_err-view g c = λ columns wanted sizes first second fasta_text limit enough reports are.
    let p = err_from_is_err_and c.from_residual.result c.from_residual.ensures.1 in
    rw (p.1, p.2) (held-fault _ wanted c.args.files c.args.plan.now.view columns enough reports are _ (sym c.in_err-view.ensures) _)

pub returns : goal.returns
returns g c = λ columns wanted sizes first second fasta_text limit enough reports are.
    held-text _ wanted c.args.files c.args.plan.now.view columns enough reports are c.in_ok-view.view (sym c.in_ok-view.ensures) _ _ c.print.result c.print.ensures
