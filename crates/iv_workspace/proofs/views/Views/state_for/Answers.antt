use Rattle.std.proofs.Common.{refl}
use Rattle.iv_workspace.proofs.StateLemmas.{state-at, kept-at, kept-later}
use Rattle.iv_workspace.proofs.views.Views.state_for.Goals as goal

pub returns-in-Some-clause-right : goal.returns-in-Some-clause-right
returns-in-Some-clause-right g c =
    state-at _ _ c.self.view_is c.loop-index.index _ c.index.ensures c.args.what c.in-Some.state.now c.in-Some.ensures.some.0 c.in-Some.ensures.some.1

pub returns-in-Some-clause-owned : goal.returns-in-Some-clause-owned
returns-in-Some-clause-owned g c =
    kept-at _ _ c.self.view_is c.loop-index.index _ c.index.ensures c.args.what c.in-Some.state.now c.in-Some.ensures.some.0 c.in-Some.ensures.some.1

pub loop-index-preserved : goal.loop-index-preserved
loop-index-preserved g c = λ a.
    kept-later _ _ c.self.view_is c.loop-index.index _ c.index.ensures c.args.what (c.in_default.ensures.none refl) (c.loop-index.invariant a)
