use Rattle.std.proofs.Common.{rules, refl, arith, sym, ap, ◌∙◌, ◌≡◌, ◌+◌, ◌<◌, Some, None, length, vec_len}
use Rattle.std.specs.Vec.{vec_items}
use Rattle.std.specs.Option.{option_map}
use Rattle.std.proofs.lemmas.List.{length-map}
use Rattle.iv_ledger.specs.Entries.{lent_entry}
use Rattle.iv_ledger.specs.Inside.Seen.{seen, seen_chunk, seen_chunks}
use Rattle.iv_ledger.proofs.MapLemmas.{found_last, gap_no_last, gap_within, gap_last}
use Rattle.iv_ledger.proofs.SeenLemmas.{seen_at}
use Rattle.iv_ledger.proofs.LedgerLemmas.{seen_read, key_at, key_inside}
use Rattle.iv_ledger.proofs.ledger.Ledger.at_or_before.Goals as goal

pub returns-in_err-index-in-Err-clause-entry : goal.returns-in_err-index-in-Err-clause-entry
returns-in_err-index-in-Err-clause-entry g c =
    let none : c.from_residual.result ≡ None = search rules in
    ap (option_map (lent_entry g.O.Lends.lent)) none
    ∙ sym (gap_no_last c.in-Err.ensures.absent (ap (seen_chunks (g.O.Order.read c.self.inside.order)) c.deref.ensures.value) c.self.view_is (omega (arith, c.in_err-index-in-Err.ensures)))

pub index-requires-in-Err : goal.index-requires-in-Err
index-requires-in-Err g c =
    omega (arith, c.in-Err.ensures.absent.some_before (omega (arith, c.in_ok-index-in-Err.ensures)), length-map c.deref.result.now (seen_chunk (g.O.Order.read c.self.inside.order)), ap length c.deref.ensures.value, c.self.inside.chunks.ok.0)

pub lend-requires : goal.lend-requires
lend-requires g c =
    let order = c.self.inside.order in
    λ κs. ((refl, tt), key_inside (λ e. g.O.Order.IsKey order e.0) c.index-entry.result.now c.in-Ok.ensures.inside c.deref.ensures.value c.self.invariant.keys c.index.ensures c.index-entry.ensures)

pub returns-in-Ok-clause-entry : goal.returns-in-Ok-clause-entry
returns-in-Ok-clause-entry g c =
    let read = g.O.Order.read c.self.inside.order in
    ap (λ s. Some (s, c.index-entry.result.now.1)) c.lend.ensures
    ∙ sym (found_last (seen_read read g.met.O.Order.total c.in-Ok.ensures.found c.deref.ensures.value c.self.invariant.whole.in_chunks c.self.view_is c.index.ensures c.index-entry.ensures))

pub lend-requires-in-Err : goal.lend-requires-in-Err
lend-requires-in-Err g c =
    let order = c.self.inside.order in
    let read = g.O.Order.read order in
    let cs = c.self.inside.chunks.items in
    let gap = c.in-Err.gap in
    let x = c.index-in-Err.result.now in
    let j = c.in_ok-index-in-Err.index in
    let next : gap.index ≡ j + 1 = omega (arith, c.in_ok-index-in-Err.ensures) in
    let lt : gap.chunk < length cs = omega (arith, c.in-Err.ensures.absent.some_before (omega (arith, c.in_ok-index-in-Err.ensures)), length-map c.deref.result.now (seen_chunk read), ap length c.deref.ensures.value) in
    let within : j < vec_len x = gap_within c.in-Err.ensures.absent (ap (seen_chunks read) c.deref.ensures.value) c.self.view_is (seen_at (seen_chunk read) cs gap.chunk x c.index-in-Err.ensures) j next in
    λ κs. ((refl, tt), key_at (λ e. g.O.Order.IsKey order e.0) c.index-entry-in-Err.result.now cs gap.chunk x lt c.index-in-Err.ensures j (omega (arith, within, x.ok.0)) c.index-entry-in-Err.ensures c.self.invariant.keys)

pub returns-in_ok-index-in-Err-clause-entry : goal.returns-in_ok-index-in-Err-clause-entry
returns-in_ok-index-in-Err-clause-entry g c =
    let read = g.O.Order.read c.self.inside.order in
    let cs = c.self.inside.chunks.items in
    let gap = c.in-Err.gap in
    let x = c.index-in-Err.result.now in
    let j = c.in_ok-index-in-Err.index in
    ap (λ s. Some (s, c.index-entry-in-Err.result.now.1)) c.lend-in-Err.ensures
    ∙ sym (gap_last c.in-Err.ensures.absent (ap (seen_chunks read) c.deref.ensures.value) c.self.view_is (seen_at (seen_chunk read) cs gap.chunk x c.index-in-Err.ensures) j (omega (arith, c.in_ok-index-in-Err.ensures))
    (seen_at (seen read) (vec_items x) j c.index-entry-in-Err.result.now c.index-entry-in-Err.ensures))
