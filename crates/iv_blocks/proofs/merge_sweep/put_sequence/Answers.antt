use Rattle.iv_bytes.proofs.PutLemmas.{FailsIn-front, Puts-err, Puts-back}
use Rattle.iv_blocks.proofs.TextLemmas.{apart}
use Rattle.iv_blocks.proofs.merge_sweep.put_sequence.Goals as goal

pub returns-in_err-put_side-clause-text : goal.returns-in_err-put_side-clause-text
returns-in_err-put_side-clause-text g c =
    rw (apart c.args.options.now c.args.name.now c.args.records.now c.if-not-options.false)
    (Puts-err _ _ c.from_residual.result _ c.from_residual.ensures.0 (FailsIn-front _ _ _ _ c.in_err-put_side.ensures.text))

pub returns-clause-text : goal.returns-clause-text
returns-clause-text g c =
    rw (apart c.args.options.now c.args.name.now c.args.records.now c.if-not-options.false)
    (Puts-back _ _ _ c.put_side-3.result _ _ c.in_ok-put_side.ensures.text c.put_side-3.ensures.text)
