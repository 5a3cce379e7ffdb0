use Rattle.std.proofs.Common.{append-nil}
use Rattle.iv_bytes.proofs.PutLemmas.{FailsIn-front, FailsIn-back, Takes-append, Puts-err, Puts-back}
use Rattle.iv_blocks.proofs.merge_sweep.put_block.Goals as goal

pub returns-in_err-put_after_numbers-clause-text : goal.returns-in_err-put_after_numbers-clause-text
returns-in_err-put_after_numbers-clause-text g c =
    let fails = rw (c.new.ensures, append-nil, c.from-start.ensures, c.from-stop.ensures) at c.in_err-put_after_numbers.ensures in
    (Puts-err _ _ c.from_residual.result _ c.from_residual.ensures.0 (FailsIn-front _ _ _ _ (FailsIn-front _ _ _ _ fails)))

pub returns-in_err-put_results-clause-text : goal.returns-in_err-put_results-clause-text
returns-in_err-put_results-clause-text g c =
    let took = rw (c.new.ensures, append-nil, c.from-start.ensures, c.from-stop.ensures) at c.in_ok-put_after_numbers.ensures in
    (Puts-err _ _ c.from_residual-in_err-put_results.result _ c.from_residual-in_err-put_results.ensures.0
    (FailsIn-front _ _ _ _ (FailsIn-back _ _ _ _ _ took c.in_err-put_results.ensures.text)))

pub returns-clause-text : goal.returns-clause-text
returns-clause-text g c =
    let took = rw (c.new.ensures, append-nil, c.from-start.ensures, c.from-stop.ensures) at c.in_ok-put_after_numbers.ensures in
    (Puts-back _ _ _ c.put_all.result _ _ (Takes-append _ _ _ _ _ took c.in_ok-put_results.ensures.text) c.put_all.ensures)
