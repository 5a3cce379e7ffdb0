use Rattle.std.proofs.Common.{arith}
use Rattle.iv_workspace.proofs.OpenViewLemmas.{stale-yes, stale-no}
use Rattle.iv_workspace.proofs.views.Views.stale.Goals as goal
use Rattle.iv_workspace.proofs.views.Views.stale.Goals.{then-index, else-index}

pub overflow_add-count : goal.overflow_add-count
overflow_add-count g c = omega (arith, c.self.invariant, c.len-index-end.ensures.value)

pub loop-index-preserved : goal.loop-index-preserved
loop-index-preserved g c = elim c.if-index.branch [
  | then-index w ↦
      let next = stale-yes c.self.inside.views c.loop-index.index _ c.index.ensures (w.if-index.true) in
      (omega (arith, next, w.count-is, c.loop-index.invariant.0), omega (arith, w.count-is))
  | else-index w ↦
      let next = stale-no c.self.inside.views c.loop-index.index _ c.index.ensures (w.if-index.false) in
      (omega (arith, next, w.count-is, c.loop-index.invariant.0), omega (arith, w.count-is))
]
