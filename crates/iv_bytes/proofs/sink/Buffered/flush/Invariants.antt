use Rattle.std.proofs.Common.{[], length}
use Rattle.iv_bytes.specs.Sinks.{Takes, buffered}
use Rattle.iv_bytes.proofs.sink.Buffered.flush.Given as goal

abbrev pub invariant-loop-self : goal.invariant-loop-self
invariant-loop-self g l = Takes
    (buffered (g.S.Sink.state l.fn.self.sink.now) l.fn.self.sink.ghost_name l.fn.self.held)
    (buffered (g.S.Sink.state l.self.sink.now) l.self.sink.ghost_name l.self.held) []

abbrev pub decreases-loop-self : goal.decreases-loop-self
decreases-loop-self g l = length l.self.held
