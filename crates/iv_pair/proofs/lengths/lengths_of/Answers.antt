use Rattle.std.proofs.Common.{◌∙◌, List, sym, ap, subst, arith}
use Rattle.iv_lines.specs.Ordered.{added_by}
use Rattle.iv_lines.specs.RecordValue.{RecordValue}
use Rattle.iv_track.specs.Copies.{expanded}
use Rattle.iv_ledger.specs.Entries.{pair_cmp}
use Rattle.iv_track.proofs.WalkLemmas.{filter-from_first}
use Rattle.iv_pair.proofs.LengthLemmas.{IsCounted, IsCounted-begin, IsCounted-next, IsCounted-room, IsCounted-all}
use Rattle.iv_pair.proofs.lengths.lengths_of.Goals as goal

pub loop-record-init : goal.loop-record-init
loop-record-init g c =
    let records = c.args.track.now.records in
    subst (λ (left : List RecordValue). IsCounted c.new-lengths.result left records) (sym (c.walk-records.ensures.records ∙ filter-from_first records)) (IsCounted-begin c.new-lengths.result records c.new-lengths.ensures)

pub raise-requires-clause-room : goal.raise-requires-clause-room
raise-requires-clause-room g c = omega (arith, IsCounted-room _ _ _ c.length_of.result c.loop-record.invariant, c.requires)

pub loop-record-preserved : goal.loop-record-preserved
loop-record-preserved g c =
    let l = c.loop-record in
    IsCounted-next l.lengths c.raise.new.lengths l.records c.next.new.self c.args.track.now.records c.in-Some.record l.invariant c.in-Some.ensures.feature c.in_ok-raise.ensures.ok.0
    (c.in_ok-raise.ensures.ok.1 ∙ ap (added_by pair_cmp (expanded l.lengths)) c.length_of.ensures.is)

pub returns : goal.returns
returns g c = IsCounted-all c.loop-record.lengths c.loop-record.records c.args.track.now.records c.loop-record.invariant c.in_default.ensures.feature.0
