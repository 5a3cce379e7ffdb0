use Rattle.std.proofs.Common.{◌≡◌, ◌+◌, ◌≤◌, drop}
use Rattle.iv_workspace.specs.Inside.ViewStates.{all_seen}
use Rattle.iv_workspace.specs.OpenViews.{stale_count}
use Rattle.iv_workspace.proofs.views.Views.stale.Given as goal

abbrev pub invariant-loop-index : goal.invariant-loop-index
invariant-loop-index g l =
    (l.count + stale_count (all_seen (drop l.index l.self-inside.views)) ≡ stale_count (all_seen l.self))
    × (l.count ≤ l.index)
