use Rattle.std.proofs.Common.{rules, refl, ap, ◌∙◌, ◌≡◌, Some, None}
use Rattle.std.specs.Option.{option_map}
use Rattle.std.specs.Ordering.{is_le}
use Rattle.iv_ledger.specs.Entries.{lent_entry}
use Rattle.iv_ledger.specs.Inside.Seen.{seen_chunks}
use Rattle.iv_ledger.proofs.MapLemmas.{first_found}
use Rattle.iv_ledger.proofs.SeenLemmas.{first-seen}
use Rattle.iv_ledger.proofs.LedgerLemmas.{key_first}
use Rattle.iv_ledger.proofs.ledger.Ledger.at_or_after.Goals as goal

pub returns-in_err-entry-clause-entry : goal.returns-in_err-entry-clause-entry
returns-in_err-entry-clause-entry g c =
    let read = g.O.Order.read c.self.inside.order in
    let none : c.from_residual.result ≡ None = search rules in
    ap (option_map (lent_entry g.O.Lends.lent)) none
    ∙ first_found (ap (seen_chunks read) c.deref-2.ensures.value) (ap (seen_chunks read) c.deref.ensures.value) c.self.view_is (λ e. is_le (g.O.Order.cmp (g.O.Seeks.sought c.args.key.now) e.0)) c.index_from-at.result c.index_from-at.ensures.entries
    (first-seen read c.deref-2.result.now c.index_from-at.result None c.in_err-entry.ensures)

pub lend-requires : goal.lend-requires
lend-requires g c =
    let order = c.self.inside.order in
    λ κs. ((refl, tt), key_first (λ e. g.O.Order.IsKey order e.0) c.in_ok-entry.entry.now c.self.inside.chunks.items c.index_from-at.result c.self.invariant.keys (rw c.deref-2.ensures.value at c.in_ok-entry.ensures))

pub returns-clause-entry : goal.returns-clause-entry
returns-clause-entry g c =
    let read = g.O.Order.read c.self.inside.order in
    ap (λ s. Some (s, c.in_ok-entry.entry.now.1)) c.lend.ensures
    ∙ first_found (ap (seen_chunks read) c.deref-2.ensures.value) (ap (seen_chunks read) c.deref.ensures.value) c.self.view_is (λ e. is_le (g.O.Order.cmp (g.O.Seeks.sought c.args.key.now) e.0)) c.index_from-at.result c.index_from-at.ensures.entries
    (first-seen read c.deref-2.result.now c.index_from-at.result (Some c.in_ok-entry.entry.now) c.in_ok-entry.ensures)
