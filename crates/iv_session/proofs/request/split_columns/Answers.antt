use Rattle.std.proofs.Common.{arith}
use Rattle.iv_session.proofs.ColumnLemmas.{cut-more, cut-last, cut-done}
use Rattle.iv_session.proofs.request.split_columns.Goals as goal

pub returns-in_err-rest : goal.returns-in_err-rest
returns-in_err-rest c =
    let last = cut-last c.args.text.now c.loop.rest.now c.split_first_column.result.0.now c.loop.counter c.loop.invariant
    (rw c.in_err-rest.was at c.split_first_column.ensures) in
    rw c.from_residual.ensures (omega (arith, last, c.loop-test.true))

pub loop-preserved : goal.loop-preserved
loop-preserved c =
    cut-more c.args.text.now c.loop.rest.now c.split_first_column.result.0.now c.in_ok-rest.rest.now c.loop.counter c.loop.invariant
    (rw c.in_ok-rest.was at c.split_first_column.ensures)

pub returns : goal.returns
returns c =
    let done = cut-done c.args.text.now c.loop.rest.now c.loop.counter (omega (arith, c.loop-test.false, c.requires)) c.loop.invariant in
    (done.all, omega (arith, done.count, c.loop-test.false, c.loop.auto.counter-end))
