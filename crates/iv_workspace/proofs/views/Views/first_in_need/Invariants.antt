use Rattle.std.proofs.Common.{drop}
use Rattle.iv_workspace.specs.Inside.ViewStates.{NoneNeeds, all_seen}
use Rattle.iv_workspace.proofs.views.Views.first_in_need.Given as goal

abbrev pub invariant-loop-index : goal.invariant-loop-index
invariant-loop-index g l = NoneNeeds l.what (all_seen (drop l.index l.self)) → NoneNeeds l.what (all_seen l.self)
