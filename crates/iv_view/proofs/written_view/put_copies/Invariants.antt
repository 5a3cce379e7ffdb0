use Rattle.std.proofs.Common.{◌-◌}
use Rattle.std.specs.Prelude.{replicate}
use Rattle.iv_bytes.proofs.PutLemmas.{Underway}
use Rattle.iv_view.specs.Inside.Texts.{records_text}
use Rattle.iv_view.proofs.written_view.put_copies.Given as goal

-- the rows of the copies that are left remain to be written
abbrev pub invariant-copies : goal.invariant-copies
invariant-copies g l = Underway (g.S.Sink.state l.fn.sink) (g.S.Sink.state l.sink)
    (records_text l.genome (replicate (l.copies - l.counter) l.feature))
    (records_text l.genome (replicate l.copies l.feature))
