use Rattle.std.proofs.Common.{◌≡◌, ◌⊎◌, ◌<◌, length}
use Rattle.iv_lines.specs.Named.{names_of}
use Rattle.iv_workspace.specs.Inside.ViewStates.{AreRight, all_seen}
use Rattle.iv_workspace.specs.OpenViews.{stale_count}
use Rattle.iv_workspace.proofs.StateLemmas.{current_to}
use Rattle.iv_workspace.proofs.views.Views.refresh_all.Given as goal

abbrev pub invariant-loop-index : goal.invariant-loop-index
invariant-loop-index g l =
    AreRight l.self (names_of l.genome) l.track.records
    × (all_seen l.self ≡ current_to l.index (all_seen l.fn.self))
    × (length l.fn.self ≡ l.index-end)
    × ((l.meter ≡ l.fn.meter) ⊎ (0 < stale_count (all_seen l.fn.self)))
