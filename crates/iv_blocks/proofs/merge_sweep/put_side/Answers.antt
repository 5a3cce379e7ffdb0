use Rattle.std.proofs.Common.{◌≡◌, ◌≤◌, ◌∙◌, None, List, filter, length, vec_capacity, ap, sym, subst, length-append, arith}
use Rattle.std.specs.List.{flat_map}
use Rattle.iv_bytes.proofs.PutLemmas.{Underway-begin, Puts-err}
use Rattle.iv_lines.specs.RecordValue.{RecordValue}
use Rattle.iv_cover.specs.Inside.RemainingBlocks.{remaining_blocks}
use Rattle.iv_cover.specs.Inside.TrackBlocks.{BlockWithMembers}
use Rattle.iv_cover.specs.declared.column.ColumnSummary.{ColumnSummary}
use Rattle.iv_blocks.specs.Groups.{listed}
use Rattle.iv_blocks.specs.Inside.Groups.{is_on}
use Rattle.iv_cover.proofs.RemainingLemmas.{members_of, remaining-members}
use Rattle.iv_blocks.specs.Inside.MergeSweeps.{group_row}
use Rattle.iv_cover.specs.Results.{HasRoom}
use Rattle.iv_cover.proofs.FirstLemmas.{Underway-step, Underway-failed}
use Rattle.iv_blocks.proofs.RoomLemmas.{room-more}
use Rattle.iv_track.proofs.WalkLemmas.{few}
use Rattle.iv_blocks.proofs.merge_sweep.put_side.Goals as goal

pub loop-block-init : goal.loop-block-init
loop-block-init g c =
    let d = c.args.options.now.distance in
    let on = is_on c.args.side in
    let given : c.of-blocks.result ≡ remaining_blocks d None (filter on c.args.records.now)
    = c.of-blocks.ensures.left ∙ ap (remaining_blocks d None) (c.of-on_side.ensures ∙ ap (filter on) c.again.ensures) in
    record {
      put = rw given (Underway-begin _ _);
      few = omega (arith, ap (λ (l : List BlockWithMembers). length (members_of l)) given, ap (λ (l : List RecordValue). length l) (remaining-members d (filter on c.args.records.now) None), few on c.args.records.now);
      grown = omega arith;
    }

pub put_block-requires : goal.put_block-requires
put_block-requires g c =
    let i = c.loop-block.invariant in
    let ms = c.in-Some.members in
    let more = c.next_with_members.new.self in
    let first = c.in-Some.ensures in
    let fewer : length ms ≤ length c.args.records.now
    = omega (arith, i.few, ap (λ (l : List BlockWithMembers). length (members_of l)) first, length-append ms (members_of more)) in
    record {
      room = subst (λ (asked : List ColumnSummary). HasRoom (vec_capacity c.loop-block.values) (length ms) asked) (sym c.as_slice-summaries.ensures)
          (room-more (vec_capacity c.args.values.now) (vec_capacity c.loop-block.values) (length c.args.records.now) (length ms) (listed c.args.options.now.summaries) i.grown fewer c.requires.room);
    }

pub loop-block-preserved : goal.loop-block-preserved
loop-block-preserved g c =
    let i = c.loop-block.invariant in
    let f = group_row c.args.name.now (listed c.args.options.now.summaries) in
    let ms = c.in-Some.members in
    let more = c.next_with_members.new.self in
    let first = c.in-Some.ensures in
    record {
      put = Underway-step _ _ _ _ _ _ _ (ap (flat_map f) first) i.put (rw c.as_slice-summaries.ensures at c.in_ok-put_block.ensures.text);
      few = omega (arith, i.few, ap (λ (l : List BlockWithMembers). length (members_of l)) first, length-append ms (members_of more));
      grown = omega (arith, i.grown, c.in_ok-put_block.ensures.room);
    }

pub returns-in_err-put_block-clause-text : goal.returns-in_err-put_block-clause-text
returns-in_err-put_block-clause-text g c =
    let f = group_row c.args.name.now (listed c.args.options.now.summaries) in
    let ms = c.in-Some.members in
    let first = c.in-Some.ensures in
    Puts-err _ _ c.from_residual.result _ c.from_residual.ensures.0
    (Underway-failed _ _ _ _ _ _ _ (ap (flat_map f) first) c.loop-block.invariant.put (rw c.as_slice-summaries.ensures at c.in_err-put_block.ensures.text))
