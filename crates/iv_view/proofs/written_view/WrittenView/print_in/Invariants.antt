use Rattle.std.proofs.Common.{◌+◌, ◌≤◌, [], length}
use Rattle.std.specs.List.{flat_map}
use Rattle.std.specs.Option.{option_copied, unwrap_or}
use Rattle.iv_bytes.proofs.PutLemmas.{Underway}
use Rattle.iv_track.specs.Regions.{hits, near}
use Rattle.iv_view.specs.Views.{second_records, written_rows}
use Rattle.iv_view.proofs.written_view.WrittenView.print_in.Given as goal

-- the rows of the hits that are left remain to be written
abbrev pub invariant-records : goal.invariant-records
invariant-records g l = record {
  put : Underway (g.S.Sink.state l.fn.sink) (g.S.Sink.state l.sink)
      (flat_map (written_rows l.self l.genome (second_records (option_copied l.fn.second)) (unwrap_or (option_copied l.fn.fasta) [])) l.hits.records)
      (flat_map (written_rows l.self l.genome (second_records (option_copied l.fn.second)) (unwrap_or (option_copied l.fn.fasta) [])) (hits l.track.records l.fn.at.seq l.fn.at.start l.fn.at.stop));
  no_less : l.fn.meter ≤ l.meter;
  at_most : l.meter + l.hits.passes ≤ l.fn.meter + (1 + length (near l.fn.at l.track.records));
}

abbrev pub decreases-records : goal.decreases-records
decreases-records g l = length l.hits.records
