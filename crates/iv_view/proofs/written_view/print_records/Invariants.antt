use Rattle.std.proofs.Common.{◌+◌, ◌≤◌, length}
use Rattle.iv_bytes.proofs.PutLemmas.{Underway}
use Rattle.iv_track.specs.Copies.{expanded}
use Rattle.iv_track.specs.Tracked.{different_records}
use Rattle.iv_view.specs.Inside.Texts.{records_text}
use Rattle.iv_view.proofs.written_view.print_records.Given as goal

-- the rows of the entries that are left remain to be written
abbrev pub invariant-entries : goal.invariant-entries
invariant-entries g l = record {
  put : Underway (g.S.Sink.state l.fn.sink) (g.S.Sink.state l.sink) (records_text l.genome (expanded l.entries)) (records_text l.genome l.track.records);
  no_less : l.fn.meter ≤ l.meter;
  at_most : l.meter + length l.entries ≤ l.fn.meter + (1 + different_records l.track.records);
}

abbrev pub decreases-entries : goal.decreases-entries
decreases-entries g l = length l.entries
