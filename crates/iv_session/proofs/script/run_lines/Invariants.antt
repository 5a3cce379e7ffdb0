use Rattle.std.proofs.Common.{◌-◌, ◌≤◌}
use Rattle.iv_session.specs.Streams.{streams}
use Rattle.iv_session.proofs.ScriptLemmas.{Going}
use Rattle.iv_session.proofs.script.run_lines.Given as goal

abbrev pub invariant-lines : goal.invariant-lines
invariant-lines g l =
    Going l.fn.session l.session l.held
    (streams (g.R.Source.state l.fn.input) (g.W.Sink.state l.fn.output) (g.E.Sink.state l.fn.messages))
    (streams (g.R.Source.state l.input) (g.W.Sink.state l.output) (g.E.Sink.state l.messages)) l.most l.counts.lines l.counts.refused
    × (l.counts.lines ≤ l.most_lines) × (l.most_lines ≤ 4294967295)

abbrev pub decreases-lines : goal.decreases-lines
decreases-lines g l = l.most_lines - l.counts.lines
