use Rattle.std.proofs.Common.{length}
use Rattle.std.specs.List.{join_with_byte}
use Rattle.iv_bytes.proofs.PutLemmas.{Underway}
use Rattle.iv_lines.specs.Bytes.{comma}
use Rattle.iv_cover.specs.Inside.Results.{after_commas}
use Rattle.iv_cover.proofs.summaries.put_values.Given as goal

-- the values that are left remain
abbrev pub invariant-loop-value : goal.invariant-loop-value
invariant-loop-value g l = Underway (g.S.Sink.state l.fn.sink) (g.S.Sink.state l.sink)
    (after_commas (g.V.Values.left l.name l.column l.left)) (join_with_byte comma (g.V.Values.left l.name l.column l.values))

abbrev pub decreases-loop-value : goal.decreases-loop-value
decreases-loop-value g l = length (g.V.Values.left l.name l.column l.left)
