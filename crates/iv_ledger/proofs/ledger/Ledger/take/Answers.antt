use Rattle.std.proofs.Common.{sym, ap, ◌∙◌}
use Rattle.iv_ledger.specs.Inside.Seen.{seen_chunks}
use Rattle.iv_ledger.proofs.MapLemmas.{found_value, found_remove, some_entry, gap_value, gap_remove}
use Rattle.iv_ledger.proofs.LedgerLemmas.{seen_taken, seen_removed, stored_removed}
use Rattle.iv_ledger.proofs.ledger.Ledger.take.Goals as goal

pub overflow_sub-self : goal.overflow_sub-self
overflow_sub-self g c =
    some_entry (seen_taken (g.O.Order.read c.self.inside.order) g.met.O.Order.total c.in-Ok.ensures.found c.deref.ensures.value c.self.invariant.whole.in_chunks c.self.view_is c.remove_at-value.ensures.value) c.self.invariant.whole

pub invariant_of-self : goal.invariant_of-self
invariant_of-self g c =
    stored_removed (g.O.Order.read c.self.inside.order) g.met.O.Order.total c.in-Ok.ensures.found c.deref.ensures.value c.self.invariant.whole.in_chunks c.self.view_is c.remove_at-value.ensures.value
    c.self.invariant (c.join_small-joined.ensures.same ∙ c.remove_at-value.ensures.rest) c.join_small-joined.ensures.filled

pub returns-in-Ok-clause-value : goal.returns-in-Ok-clause-value
returns-in-Ok-clause-value g c =
    sym (found_value (seen_taken (g.O.Order.read c.self.inside.order) g.met.O.Order.total c.in-Ok.ensures.found c.deref.ensures.value c.self.invariant.whole.in_chunks c.self.view_is c.remove_at-value.ensures.value))

pub returns-in-Ok-clause-rest : goal.returns-in-Ok-clause-rest
returns-in-Ok-clause-rest g c =
    seen_removed (g.O.Order.read c.self.inside.order) c.self.inside.chunks.items c.join_small-joined.new.chunks.items c.in-Ok.at (c.join_small-joined.ensures.same ∙ c.remove_at-value.ensures.rest)
    ∙ sym (found_remove (seen_taken (g.O.Order.read c.self.inside.order) g.met.O.Order.total c.in-Ok.ensures.found c.deref.ensures.value c.self.invariant.whole.in_chunks c.self.view_is c.remove_at-value.ensures.value))

pub returns-in-Ok-clause-ordered : goal.returns-in-Ok-clause-ordered
returns-in-Ok-clause-ordered g c =
    (stored_removed (g.O.Order.read c.self.inside.order) g.met.O.Order.total c.in-Ok.ensures.found c.deref.ensures.value c.self.invariant.whole.in_chunks c.self.view_is c.remove_at-value.ensures.value
    c.self.invariant (c.join_small-joined.ensures.same ∙ c.remove_at-value.ensures.rest) c.join_small-joined.ensures.filled).whole.in_chunks.ordered

pub returns-in-Err-clause-value : goal.returns-in-Err-clause-value
returns-in-Err-clause-value g c = sym (gap_value c.in-Err.ensures.absent (ap (seen_chunks (g.O.Order.read c.self.inside.order)) c.deref.ensures.value) c.self.view_is)

pub returns-in-Err-clause-rest : goal.returns-in-Err-clause-rest
returns-in-Err-clause-rest g c = sym (gap_remove c.in-Err.ensures.absent (ap (seen_chunks (g.O.Order.read c.self.inside.order)) c.deref.ensures.value) c.self.view_is)
