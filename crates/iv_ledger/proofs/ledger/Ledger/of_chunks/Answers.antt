use Rattle.iv_ledger.proofs.SeenLemmas.{seen-all}
use Rattle.iv_ledger.proofs.ledger.Ledger.of_chunks.Goals as goal

pub returns-clause-entries : goal.returns-clause-entries
returns-clause-entries g c = seen-all (g.O.Order.read c.args.order) c.args.chunks.items
