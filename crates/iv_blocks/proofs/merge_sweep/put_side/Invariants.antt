use Rattle.std.proofs.Common.{◌≤◌, filter, length, vec_capacity}
use Rattle.std.specs.List.{flat_map}
use Rattle.iv_bytes.proofs.PutLemmas.{Underway}
use Rattle.iv_blocks.specs.Groups.{listed}
use Rattle.iv_blocks.specs.Inside.Groups.{is_on}
use Rattle.iv_blocks.specs.Inside.MergeSweeps.{group_row, group_rows}
use Rattle.iv_cover.proofs.RemainingLemmas.{members_of}
use Rattle.iv_blocks.proofs.merge_sweep.put_side.Given as goal

-- the rows of the blocks that are left remain to be written, and these have no more members than there are records
abbrev pub invariant-loop-block : goal.invariant-loop-block
invariant-loop-block g l = record {
  put : Underway (g.S.Sink.state l.fn.sink) (g.S.Sink.state l.sink)
      (flat_map (group_row l.name (listed l.options.summaries)) l.blocks) (group_rows l.options l.name (filter (is_on l.fn.side) l.records));
  few : length (members_of l.blocks) ≤ length l.records;
  grown : vec_capacity l.fn.values ≤ vec_capacity l.values;
}

abbrev pub decreases-loop-block : goal.decreases-loop-block
decreases-loop-block g l = length l.blocks
