use Rattle.iv_depth.specs.Inside.Edges.{edge_count}
use Rattle.iv_depth.proofs.NetChangesLemmas.{IsBuilding}
use Rattle.iv_depth.proofs.changes.push_changes.Given as goal

-- the changes at the edges that were passed are added
abbrev pub invariant-loop-position : goal.invariant-loop-position
invariant-loop-position g l = IsBuilding l.seq l.fn.edges l.fn.built l.built l.edges

abbrev pub decreases-loop-position : goal.decreases-loop-position
decreases-loop-position g l = edge_count l.edges
