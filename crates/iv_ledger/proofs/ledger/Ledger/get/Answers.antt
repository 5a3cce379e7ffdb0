use Rattle.std.proofs.Common.{sym, ap}
use Rattle.iv_ledger.specs.Inside.Seen.{seen_chunks}
use Rattle.iv_ledger.proofs.MapLemmas.{found_value, gap_value}
use Rattle.iv_ledger.proofs.LedgerLemmas.{seen_read}
use Rattle.iv_ledger.proofs.ledger.Ledger.get.Goals as goal

pub returns-in-Ok-clause-value : goal.returns-in-Ok-clause-value
returns-in-Ok-clause-value g c =
    sym (found_value (seen_read (g.O.Order.read c.self.inside.order) g.met.O.Order.total c.in-Ok.ensures.found c.deref.ensures.value c.self.invariant.whole.in_chunks c.self.view_is c.index.ensures c.index-in-Ok.ensures))

pub returns-in-Err-clause-value : goal.returns-in-Err-clause-value
returns-in-Err-clause-value g c = sym (gap_value c.in-Err.ensures.absent (ap (seen_chunks (g.O.Order.read c.self.inside.order)) c.deref.ensures.value) c.self.view_is)
