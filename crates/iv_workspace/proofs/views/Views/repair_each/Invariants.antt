use Rattle.std.proofs.Common.{◌≡◌, ◌≤◌, length}
use Rattle.iv_lines.specs.Named.{names_of}
use Rattle.iv_workspace.specs.Inside.ViewStates.{with_edited}
use Rattle.iv_workspace.proofs.StateLemmas.{Repairing}
use Rattle.iv_workspace.proofs.views.Views.repair_each.Given as goal

abbrev pub invariant-loop-index : goal.invariant-loop-index
invariant-loop-index g l =
    Repairing (names_of l.genome) l.track.records (with_edited l.change l.track.records l.feature) l.feature l.kept l.fn.self l.self-inside.views l.index l.fn.meter l.meter
    × (length l.self-inside.views ≡ l.index-end) × (l.index-end ≤ 64)
