use Rattle.std.proofs.Common.{rules, ◌<◌, ◌≡◌, subst, length, arith}
use Rattle.std.specs.Vec.{vec_items}
use Rattle.std.specs.List.{HoldsAt}
use Rattle.std.proofs.lemmas.List.{length-map}
use Rattle.std.specs.declared.cmp.Ordering.TheVariants.{Equal}
use Rattle.iv_ledger.specs.Inside.Seen.{seen, seen_chunk, seen_chunks}
use Rattle.iv_ledger.proofs.FindLemmas.{found_near}
use Rattle.iv_ledger.proofs.SeenLemmas.{holds_seen, seen_at}
use Rattle.iv_ledger.proofs.entry_index.find_near.Goals as goal

pub returns-in-Ok-clause-found : goal.returns-in-Ok-clause-found
returns-in-Ok-clause-found g c =
    let cmp = g.O.Order.cmp in
    let read = g.O.Order.read c.args.order.now in
    let k = g.O.Seeks.sought c.args.probe.now in
    let cs = c.args.chunks.now in
    let chunk = c.saturating_sub-chunk.result in
    let i = c.in-Ok.index in
    let x = c.index-chunks-chunk.result in
    let same = c.deref.ensures.value in
    let lt : chunk < length cs = search rules in
    let bound : i < length (vec_items x) = subst (λ xs. i < length xs) same c.in-Ok.ensures.bound in
    let equal : HoldsAt (λ e. cmp k (read e.0) ≡ Equal) (vec_items x) i = subst (λ xs. HoldsAt (λ e. cmp k (read e.0) ≡ Equal) xs i) same c.in-Ok.ensures.found in
    found_near cmp k (seen_chunks read cs) chunk (seen_chunk read x) (omega (arith, lt, length-map cs (seen_chunk read))) (seen_at (seen_chunk read) cs chunk x c.index-chunks-chunk.is)
    i (omega (arith, bound, length-map (vec_items x) (seen read))) (holds_seen (seen read) (λ e. cmp k e.0 ≡ Equal) (vec_items x) i bound equal)
