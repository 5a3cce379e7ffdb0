use Rattle.std.proofs.Common.{◌≡◌, ◌≤◌, ◌+◌, ◌^◌, List, length, Some, None}
use Rattle.iv_lines.specs.RecordValue.{RecordValue}
use Rattle.iv_cover.specs.Inside.TrackBlocks.{with_members}
use Rattle.iv_cover.specs.Inside.RemainingBlocks.{remaining_blocks}
use Rattle.iv_blocks.proofs.joined_blocks.JoinedBlocks.next_counted.Given as goal

-- the block that is open, with its members so far, and the records that are left
abbrev pub invariant-loop-record : goal.invariant-loop-record
invariant-loop-record g l =
    (members : List RecordValue)
    × (l.fn.self ≡ remaining_blocks l.self-inside.distance (Some (with_members l.block members)) (g.W.RecordWalk.left l.self-inside.records))
    × (l.count ≡ length members)
    × (length members + length (g.W.RecordWalk.left l.self-inside.records) ≤ 2 ^ 63)
    × (l.self-inside.ahead ≡ None)

abbrev pub decreases-loop-record : goal.decreases-loop-record
decreases-loop-record g l = length (g.W.RecordWalk.left l.self-inside.records)
