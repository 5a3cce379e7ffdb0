use Rattle.std.proofs.Common.{ap, sym, subst, ◌∙◌, ◌≡◌, Some, None}
use Rattle.std.specs.Prelude.{IfSome}
use Rattle.std.specs.Option.{option_copied}
use Rattle.std.specs.declared.cmp.Ordering.TheVariants.{Less}
use Rattle.iv_ledger.specs.Inside.Seen.{seen_chunks}
use Rattle.iv_ledger.proofs.Splits.{IsAbove}
use Rattle.iv_ledger.proofs.FindLemmas.{above_place, less_from_lt}
use Rattle.iv_ledger.proofs.SeenLemmas.{first-seen}
use Rattle.iv_ledger.proofs.entry_index.is_below_next.Goals as goal

pub returns-in-Some : goal.returns-in-Some
returns-in-Some g c = λ said.
    let cmp = g.O.Order.cmp in
    let read = g.O.Order.read c.args.order.now in
    let k = g.O.Seeks.sought c.args.probe.now in
    let cs = c.args.chunks.now in
    let less : cmp k (read c.in-Some.entry.now.0) ≡ Less = sym c.compare.ensures ∙ less_from_lt c.compare.result (sym c.is_lt.ensures ∙ said) in
    above_place g.met.O.Order.total k (seen_chunks read cs) c.requires.chunks c.args.at (
    subst (λ r. IfSome r (IsAbove cmp k)) (first-seen read cs c.args.at (Some c.in-Some.entry.now) (ap option_copied (sym c.in-Some.is) ∙ c.first_from.ensures)) less
    )

pub returns-in-None : goal.returns-in-None
returns-in-None g c = λ said.
    let cmp = g.O.Order.cmp in
    let read = g.O.Order.read c.args.order.now in
    let k = g.O.Seeks.sought c.args.probe.now in
    let cs = c.args.chunks.now in
    above_place g.met.O.Order.total k (seen_chunks read cs) c.requires.chunks c.args.at (
    subst (λ r. IfSome r (IsAbove cmp k)) (first-seen read cs c.args.at None (ap option_copied (sym c.in-None.is) ∙ c.first_from.ensures)) tt
    )
