use Rattle.std.proofs.Common.{refl, sym, ap, ◌∙◌, Some}
use Rattle.iv_ledger.specs.Inside.Seen.{seen_chunks}
use Rattle.iv_ledger.proofs.MapLemmas.{found_value, gap_value}
use Rattle.iv_ledger.proofs.LedgerLemmas.{seen_read, seen_set, stored_written}
use Rattle.iv_ledger.proofs.ledger.Ledger.set.Goals as goal

pub invariant_of-self : goal.invariant_of-self
invariant_of-self g c = stored_written (g.O.Order.read c.self.inside.order) g.met.O.Order.total c.in-Ok.ensures.found c.deref.ensures.value c.self.invariant.whole.in_chunks c.self.view_is c.index_mut.ensures.value c.index_mut-in-Ok.ensures.value c.replace.ensures.after c.self.invariant

pub returns-in-Ok-clause-ok : goal.returns-in-Ok-clause-ok
returns-in-Ok-clause-ok g c = found_value (seen_read (g.O.Order.read c.self.inside.order) g.met.O.Order.total c.in-Ok.ensures.found c.deref.ensures.value c.self.invariant.whole.in_chunks c.self.view_is c.index_mut.ensures.value c.index_mut-in-Ok.ensures.value) ∙ ap Some (sym c.replace.ensures.value)

pub returns-in-Ok-clause-written : goal.returns-in-Ok-clause-written
returns-in-Ok-clause-written g c = seen_set (g.O.Order.read c.self.inside.order) g.met.O.Order.total c.in-Ok.ensures.found c.deref.ensures.value c.self.invariant.whole.in_chunks c.self.view_is c.index_mut.ensures.value c.index_mut-in-Ok.ensures.value c.replace.ensures.after

pub returns-in-Ok-clause-ordered : goal.returns-in-Ok-clause-ordered
returns-in-Ok-clause-ordered g c = (stored_written (g.O.Order.read c.self.inside.order) g.met.O.Order.total c.in-Ok.ensures.found c.deref.ensures.value c.self.invariant.whole.in_chunks c.self.view_is c.index_mut.ensures.value c.index_mut-in-Ok.ensures.value c.replace.ensures.after c.self.invariant).whole.in_chunks.ordered

pub returns-in-Err-clause-absent : goal.returns-in-Err-clause-absent
returns-in-Err-clause-absent g c = (refl, gap_value c.in-Err.ensures.absent (ap (seen_chunks (g.O.Order.read c.self.inside.order)) c.deref.ensures.value) c.self.view_is)
