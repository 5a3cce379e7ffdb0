use Rattle.iv_bytes.proofs.PutLemmas.{Underway-begin, Underway-more, Underway-fails, Underway-ends, Puts-err}
use Rattle.iv_blocks.proofs.cluster.put_members.Goals as goal

pub loop-member-init : goal.loop-member-init
loop-member-init g c = Underway-begin _ _

pub loop-member-preserved : goal.loop-member-preserved
loop-member-preserved g c =
    Underway-more _ _ _ _ _ _ (rw c.in-Some.ensures.first at c.loop-member.invariant) c.in_ok-put_numbered.ensures

pub returns-in_err-put_numbered : goal.returns-in_err-put_numbered
returns-in_err-put_numbered g c =
    Puts-err _ _ c.from_residual.result _ c.from_residual.ensures.0
    (Underway-fails _ _ _ _ _ _ (rw c.in-Some.ensures.first at c.loop-member.invariant) c.in_err-put_numbered.ensures)

pub returns : goal.returns
returns g c = Underway-ends _ _ _ (rw c.in_default.ensures.first.0 at c.loop-member.invariant)
