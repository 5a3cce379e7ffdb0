use Rattle.std.proofs.Common.{ℕ, ◌<◌, ◌≤◌, ◌^◌, length}
use Rattle.iv_depth.specs.Inside.Edges.{RiseFrom, SkipsEdges, edge_count}
use Rattle.iv_depth.proofs.edges.Edges.next_change.Given as goal

-- where some were passed, as many start as stop
abbrev pub invariant-loop-position : goal.invariant-loop-position
invariant-loop-position l = record {
  skips : (from : ℕ) → RiseFrom from l.fn.self
      → SkipsEdges from l.fn.self (record { starts = l.self-inside.starts.now; stops = l.self-inside.stops.now });
  few : (length l.self-inside.starts.now < 2 ^ 63) × (length l.self-inside.stops.now < 2 ^ 63);
  no_more : edge_count (record { starts = l.self-inside.starts.now; stops = l.self-inside.stops.now }) ≤ edge_count l.fn.self;
}

abbrev pub decreases-loop-position : goal.decreases-loop-position
decreases-loop-position l = edge_count (record { starts = l.self-inside.starts.now; stops = l.self-inside.stops.now })
