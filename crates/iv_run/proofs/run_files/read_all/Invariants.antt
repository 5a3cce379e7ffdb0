use Rattle.std.proofs.Common.{◌-◌, ◌≤◌, length}
use Rattle.iv_run.proofs.ReadingLemmas.{HasGiven}
use Rattle.iv_run.proofs.run_files.read_all.Given as goal

abbrev pub invariant-pieces : goal.invariant-pieces
invariant-pieces g l = HasGiven (g.R.Source.state l.fn.source) (g.R.Source.state l.source) l.bytes.items × (length l.bytes.items ≤ l.limit)

abbrev pub decreases-pieces : goal.decreases-pieces
decreases-pieces g l = l.limit - length l.bytes.items
