use Rattle.std.proofs.Common.{drop}
use Rattle.iv_workspace.specs.Inside.ViewStates.{IsOwned, all_owned}
use Rattle.iv_workspace.proofs.views.Views.state_for.Given as goal

abbrev pub invariant-loop-index : goal.invariant-loop-index
invariant-loop-index g l = IsOwned l.what (all_owned l.self) → IsOwned l.what (all_owned (drop l.index l.self))
