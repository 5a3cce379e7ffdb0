use Rattle.std.proofs.Common.{◌∙◌, ap, length, map}
use Rattle.std.proofs.lemmas.Result.{IfOk-weaker}
use Rattle.iv_ledger.specs.Inside.Seen.{seen}
use Rattle.iv_ledger.proofs.LedgerLemmas.{stored_gathered}
use Rattle.iv_ledger.proofs.builder.LedgerBuilder.finish.Goals as goal

pub of_chunks-requires : goal.of_chunks-requires
of_chunks-requires g c =
    stored_gathered (g.O.Order.read c.args.order) (g.O.Order.IsKey c.args.order) c.in_ok-with_last.field-0.items c.args.self c.self.inside.len (c.in_ok-with_last.ensures.all ∙ c.self.view_is)
    c.requires.ascend c.requires.keys c.in_ok-with_last.ensures.filled (c.self.invariant.counted ∙ ap length c.self.view_is) c.self.invariant.small

pub returns-clause-entries : goal.returns-clause-entries
returns-clause-entries g c =
    IfOk-weaker c.of_chunks.result _ _ (λ l h. h ∙ ap (map (seen (g.O.Order.read c.args.order))) (c.in_ok-with_last.ensures.all ∙ c.self.view_is)) c.of_chunks.ensures.entries
