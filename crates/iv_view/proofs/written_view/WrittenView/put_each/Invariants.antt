use Rattle.std.proofs.Common.{[], length}
use Rattle.std.specs.List.{flat_map}
use Rattle.std.specs.Option.{option_copied, unwrap_or}
use Rattle.iv_bytes.proofs.PutLemmas.{Underway}
use Rattle.iv_view.specs.Views.{written_rows}
use Rattle.iv_view.proofs.written_view.WrittenView.put_each.Given as goal

-- the rows of the records that are left remain to be put
abbrev pub invariant-records : goal.invariant-records
invariant-records g l = Underway (g.S.Sink.state l.fn.sink) (g.S.Sink.state l.sink)
    (flat_map (written_rows l.self l.genome [] (unwrap_or (option_copied l.fn.fasta) [])) (g.W.RecordWalk.left l.records))
    (flat_map (written_rows l.self l.genome [] (unwrap_or (option_copied l.fn.fasta) [])) (g.W.RecordWalk.left l.fn.records))

abbrev pub decreases-records : goal.decreases-records
decreases-records g l = length (g.W.RecordWalk.left l.records)
