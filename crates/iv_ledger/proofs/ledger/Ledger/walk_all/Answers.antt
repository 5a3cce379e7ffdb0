use Rattle.std.proofs.Common.{sym, ap, ◌∙◌}
use Rattle.iv_ledger.specs.Inside.Seen.{seen_chunks}
use Rattle.iv_ledger.specs.Inside.Chunks.{concatenated}
use Rattle.iv_ledger.proofs.SeenLemmas.{seen-all}
use Rattle.iv_ledger.proofs.ledger.Ledger.walk_all.Goals as goal

pub returns-clause-entries : goal.returns-clause-entries
returns-clause-entries g c =
    let read = g.O.Order.read c.self.inside.order in
    sym (seen-all read c.deref.result.now) ∙ ap (λ cs. concatenated (seen_chunks read cs)) c.deref.ensures.value ∙ c.self.view_is
