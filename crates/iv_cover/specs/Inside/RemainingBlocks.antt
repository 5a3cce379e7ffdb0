-- The blocks that remain of a walk over records in order. This is the state of `JoinedBlocks` of `iv_blocks`, as
-- seen by its proof: a new one shows `blocks_of`.
use Rattle.std.specs.Prelude.{ℕ, ◌+◌, ◌==◌, ◌&&◌, nat_le, Bool, List, [], ◌∷◌, ◌++◌, max, Option, None, Some, if◌then◌else◌}
use Rattle.iv_lines.specs.RecordValue.{RecordValue}
use Rattle.iv_cover.specs.Inside.TrackBlocks.{BlockWithMembers}

-- the record joins the block: it is on the same sequence, and starts at most d past the block's stop
abbrev pub is_joined : ℕ → BlockWithMembers → RecordValue → Bool
is_joined d block r = (r.seq == block.sequence) && nat_le r.start (block.stop + d)

-- a block of one record
abbrev pub block_of : RecordValue → BlockWithMembers
block_of r = record { sequence = r.seq; start = r.start; stop = r.stop; members = r ∷ [] }

-- the block with one more record
abbrev pub block_with : BlockWithMembers → RecordValue → BlockWithMembers
block_with block r = record { sequence = block.sequence; start = block.start; stop = max block.stop r.stop; members = block.members ++ r ∷ [] }

-- the block that is open after the record: the one before, which it joins, or its own
abbrev pub open_after : ℕ → Option BlockWithMembers → RecordValue → BlockWithMembers
open_after d None r = block_of r
open_after d (Some block) r = if is_joined d block r then block_with block r else block_of r

-- the open block, if there is one
abbrev pub still_open : Option BlockWithMembers → List BlockWithMembers
still_open None = []
still_open (Some block) = block ∷ []

-- the open block, if the record closes it
abbrev pub closed_by : ℕ → Option BlockWithMembers → RecordValue → List BlockWithMembers
closed_by d None r = []
closed_by d (Some block) r = if is_joined d block r then [] else block ∷ []

-- the blocks that remain, with this one open and these records left
abbrev pub remaining_blocks : ℕ → Option BlockWithMembers → List RecordValue → List BlockWithMembers
remaining_blocks d current [] = still_open current
remaining_blocks d current (r ∷ rs) = closed_by d current r ++ remaining_blocks d (Some (open_after d current r)) rs
