use Rattle.std.proofs.Common.{◌∙◌, [], ap}
use Rattle.std.specs.List.{flat_map}
use Rattle.std.specs.Option.{option_copied, unwrap_or}
use Rattle.iv_bytes.proofs.PutLemmas.{Underway-begin, Underway-more, Underway-fails, Puts-err}
use Rattle.iv_lines.specs.RecordValue.{RecordValue}
use Rattle.iv_view.specs.Views.{written_rows}
use Rattle.iv_view.proofs.RegionLemmas.{first-rows}
use Rattle.iv_view.proofs.written_view.WrittenView.put_each.Goals as goal

pub records-init : goal.records-init
records-init g c = Underway-begin _ _

pub records-preserved : goal.records-preserved
records-preserved g c =
    let a = c.args in
    let bases = unwrap_or (option_copied a.fasta) [] in
    let r : RecordValue = g.W.Record.BedRecord.as_record c.in-Some.feature in
    let next = ap (flat_map (written_rows a.self a.genome.now [] bases)) c.in-Some.ensures.first ∙ first-rows a.self a.genome.now r (g.W.RecordWalk.left c.next.new.self) [] bases in
    Underway-more _ _ _ _ _ _ (rw next at c.records.invariant) (rw c.to_ref.ensures at c.in_ok-put_alone.ensures)

pub returns-in_err-put_alone : goal.returns-in_err-put_alone
returns-in_err-put_alone g c =
    let a = c.args in
    let bases = unwrap_or (option_copied a.fasta) [] in
    let r : RecordValue = g.W.Record.BedRecord.as_record c.in-Some.feature in
    let next = ap (flat_map (written_rows a.self a.genome.now [] bases)) c.in-Some.ensures.first ∙ first-rows a.self a.genome.now r (g.W.RecordWalk.left c.next.new.self) [] bases in
    Puts-err _ _ c.from_residual.result _ c.from_residual.ensures.0
    (Underway-fails _ _ _ _ _ _ (rw next at c.records.invariant) (rw c.to_ref.ensures at c.in_err-put_alone.ensures))
