use Rattle.std.proofs.Common.{arith, rules, ◌<◌, ◌≤◌, ◌+◌, ◌≡◌, ◌∙◌, sym, subst, length, vec_len}
use Rattle.std.specs.Vec.{vec_items}
use Rattle.std.specs.declared.cmp.Ordering.TheVariants.{Greater}
use Rattle.std.proofs.lemmas.List.{length-map}
use Rattle.iv_ledger.specs.Inside.Seen.{seen, seen_chunk, seen_chunks}
use Rattle.iv_ledger.proofs.FindLemmas.{below_place, greater_from_gt}
use Rattle.iv_ledger.proofs.SeenLemmas.{seen_at}
use Rattle.iv_ledger.proofs.entry_index.is_above_last.Goals as goal

pub returns-clause-entries : goal.returns-clause-entries
returns-clause-entries g c = λ said.
    let cmp = g.O.Order.cmp in
    let read = g.O.Order.read c.args.order.now in
    let k = g.O.Seeks.sought c.args.probe.now in
    let cs = c.args.chunks.now in
    let x = c.index-chunks-chunk.result in
    let is = c.index-chunks-chunk.is in
    let j = c.in-Some.last in
    let e = c.index-entry.result.now in
    let next : c.args.at.index ≡ j + 1 = omega (arith, c.in-Some.ensures) in
    let lt : c.args.at.chunk < length cs = search rules in
    let in_chunk = subst (λ y. c.args.at.index ≤ vec_len y) (sym is) (c.requires.within.index_in_range (omega arith) x) in
    let within : j < length (vec_items x) = omega (arith, x.ok.0, next, in_chunk) in
    let less : cmp k (read e.0) ≡ Greater = sym c.compare.ensures ∙ greater_from_gt c.compare.result (sym c.is_gt.ensures ∙ said) in
    below_place g.met.O.Order.total k (seen_chunks read cs) c.requires.chunks c.args.at.chunk j (seen_chunk read x) (seen_at (seen_chunk read) cs c.args.at.chunk x is)
    (omega (arith, lt, length-map cs (seen_chunk read))) (omega (arith, within, length-map (vec_items x) (seen read))) (seen read e) (seen_at (seen read) (vec_items x) j e c.index-entry.ensures) less c.args.at.index next
