use Rattle.iv_ledger.proofs.LedgerLemmas.{stored_none}
use Rattle.iv_ledger.proofs.ledger.Ledger.with_order.Goals as goal

pub invariant_of-result : goal.invariant_of-result
invariant_of-result g c = stored_none (g.O.Order.read c.args.order) (g.O.Order.IsKey c.args.order) c.new.result.items c.new.ensures.items
