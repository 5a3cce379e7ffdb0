use Rattle.std.proofs.Common.{◌∙◌, None, Some, sym, ap}
use Rattle.std.specs.Option.{option_map}
use Rattle.iv_lines.specs.declared.interval.Interval.{Interval}
use Rattle.iv_cover.specs.RecordWalks.{ahead_of}
use Rattle.iv_blocks.specs.Inside.JoinedBlocks.{first_start}
use Rattle.iv_cover.specs.Inside.RemainingBlocks.{remaining_blocks}
use Rattle.iv_blocks.proofs.JoinedBlocksLemmas.{remaining-start}
use Rattle.iv_blocks.proofs.joined_blocks.JoinedBlocks.next_start.Goals as goal

pub returns-clause-start : goal.returns-clause-start
returns-clause-start g c =
    let distance = c.self.inside.distance in
    let left = g.W.RecordWalk.left c.look_ahead.new.records in
    let first = g.W.Record.BedRecord.as_record c.in_ok-as_ref.field-0.now in
    ap (λ (n : Interval). Some (n.seq, n.start)) c.interval-first.ensures
    ∙ sym (
    ap first_start
    (sym c.self.view_is
    ∙ ap (remaining_blocks distance None) (sym c.look_ahead.ensures.same ∙ ap (λ o. ahead_of (option_map g.W.Record.BedRecord.as_record o) left) (sym c.in_ok-as_ref.ensures.value)))
    ∙ remaining-start distance first left
    )
