use Rattle.std.proofs.Common.{◌-◌, length}
use Rattle.iv_session.proofs.ReadLemmas.{InLine}
use Rattle.iv_session.proofs.script.read_line.Given as goal

abbrev pub invariant-loop-held : goal.invariant-loop-held
invariant-loop-held g l = InLine l.fn.held l.held (g.R.Source.state l.fn.source) (g.R.Source.state l.source) l.most l.left l.line.items

abbrev pub decreases-loop-held : goal.decreases-loop-held
decreases-loop-held g l = l.most - length l.line.items
