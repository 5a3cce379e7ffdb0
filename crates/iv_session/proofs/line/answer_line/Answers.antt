use Rattle.std.proofs.lemmas.Result.{err_from_is_err_and}
use Rattle.iv_session.proofs.RunLemmas.{not-asked, is-asked}
use Rattle.iv_session.proofs.line.answer_line.Goals as goal

pub returns-in_err-request : goal.returns-in_err-request
returns-in_err-request g c =
    let p = err_from_is_err_and c.from_residual.result c.from_residual.ensures.1 in
    rw (p.1, p.2) (not-asked _ _ _ c.in_err-request.field-0.0 c.in_err-request.ensures.value)

pub returns : goal.returns
returns g c = is-asked _ _ _ _ _ _ _ c.in_ok-request.ensures.value c.run_request.ensures
