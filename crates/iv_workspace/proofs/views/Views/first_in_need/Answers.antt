use Rattle.std.proofs.Common.{arith, ap, length}
use Rattle.iv_workspace.proofs.StateLemmas.{needs-at, needless-at}
use Rattle.iv_workspace.proofs.views.Views.first_in_need.Goals as goal

pub returns-then-needs : goal.returns-then-needs
returns-then-needs g c = (
  needs-at _ _ c.self.view_is c.loop-index.index _ c.index.ensures c.args.what (c.needs.ensures.0 c.if-needs.true),
  omega (arith, c.loop-index-test.true, c.len-index-end.ensures.value, ap length c.self.view_is),
)

pub loop-index-preserved : goal.loop-index-preserved
loop-index-preserved g c = λ none.
    c.loop-index.invariant (needless-at _ _ c.self.view_is c.loop-index.index _ c.index.ensures c.args.what (λ needs. cc (c.needs.ensures.1 needs, c.if-needs.false)) none)
