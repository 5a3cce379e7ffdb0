use Rattle.std.proofs.Common.{◌-◌}
use Rattle.std.specs.List.{flat_map, range_with_len}
use Rattle.iv_bytes.proofs.PutLemmas.{Underway}
use Rattle.iv_depth.specs.DepthRows.{position_row}
use Rattle.iv_depth.proofs.depth_rows.put_positions.Given as goal

-- the rows from `position` on remain to be written
abbrev pub invariant-loop-position : goal.invariant-loop-position
invariant-loop-position g l = Underway (g.S.Sink.state l.fn.sink) (g.S.Sink.state l.sink)
    (flat_map (λ p. position_row l.name p l.depth) (range_with_len l.position (l.stop - l.position)))
    (flat_map (λ p. position_row l.name p l.depth) (range_with_len l.start (l.stop - l.start)))
