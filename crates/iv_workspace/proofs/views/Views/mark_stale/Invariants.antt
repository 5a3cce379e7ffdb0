use Rattle.std.proofs.Common.{◌≡◌, length}
use Rattle.iv_workspace.proofs.StateLemmas.{MarkingUpTo}
use Rattle.iv_workspace.proofs.views.Views.mark_stale.Given as goal

abbrev pub invariant-loop-index : goal.invariant-loop-index
invariant-loop-index g l = MarkingUpTo l.fn.self l.self l.index × (length l.self ≡ l.index-end)
