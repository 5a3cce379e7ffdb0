use Rattle.iv_bytes.proofs.PutLemmas.{Underway-ends, Puts-err}
use Rattle.iv_pair.proofs.LineLemmas.{LinesLeft-begin, LinesLeft-ends, LinesLeft-fails, LinesLeft-next, LinesLeft-overlaps}
use Rattle.iv_pair.proofs.intersect.put_each_hit.Goals as goal

pub loop-hit-init : goal.loop-hit-init
loop-hit-init g c = rw c.into_iter-hit-iterator.ensures.into_iter_gives (λ found given all. LinesLeft-begin _ _ _ _ _ found _ given all)

pub loop-hit-preserved : goal.loop-hit-preserved
loop-hit-preserved g c = λ found given all.
    let i = c.loop-hit.invariant found given all in
    LinesLeft-next _ _ _ _ _ _ _ _ _ _ c.in-Some.ensures.steps i _ (c.in_ok-put_hit.ensures (LinesLeft-overlaps _ _ _ _ _ _ _ _ _ _ c.in-Some.ensures.steps i))

pub returns-in_err-put_hit : goal.returns-in_err-put_hit
returns-in_err-put_hit g c = λ found given all.
    let i = c.loop-hit.invariant found given all in
    Puts-err _ _ c.from_residual.result _ c.from_residual.ensures.0
    (LinesLeft-fails _ _ _ _ _ _ _ _ _ _ c.in-Some.ensures.steps i _ (c.in_err-put_hit.ensures (LinesLeft-overlaps _ _ _ _ _ _ _ _ _ _ c.in-Some.ensures.steps i)))

pub returns : goal.returns
returns g c = λ found given all. Underway-ends _ _ _ (LinesLeft-ends _ _ _ _ _ _ _ _ _ c.in-None.ensures.steps (c.loop-hit.invariant found given all))
