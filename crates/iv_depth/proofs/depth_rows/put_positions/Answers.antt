use Rattle.std.proofs.Common.{arith}
use Rattle.iv_bytes.proofs.PutLemmas.{Underway-begin, Underway-more, Underway-fails, Underway-ends, Puts-err}
use Rattle.iv_depth.specs.DepthRows.{position_row}
use Rattle.iv_depth.proofs.Stretches.{each-next, each-none}
use Rattle.iv_depth.proofs.depth_rows.put_positions.Goals as goal

pub loop-position-init : goal.loop-position-init
loop-position-init g c = Underway-begin _ _

pub returns-in_err-put_position : goal.returns-in_err-put_position
returns-in_err-put_position g c =
    Puts-err _ _ c.from_residual.result _ c.from_residual.ensures.0
    (Underway-fails _ _ _ _ _ _ (rw (each-next (position_row c.args.name.now) c.args.depth c.loop-position.position c.args.stop c.loop-position-test.true) at c.loop-position.invariant) c.in_err-put_position.ensures)

pub loop-position-preserved : goal.loop-position-preserved
loop-position-preserved g c =
    Underway-more _ _ _ _ _ _ (rw (each-next (position_row c.args.name.now) c.args.depth c.loop-position.position c.args.stop c.loop-position-test.true) at c.loop-position.invariant)
    c.in_ok-put_position.ensures

pub returns : goal.returns
returns g c =
    Underway-ends _ _ _ (rw (each-none (position_row c.args.name.now) c.args.depth c.loop-position.position c.args.stop (omega arith)) at c.loop-position.invariant)
