use Rattle.std.proofs.Common.{arith, refl, sym, subst, ◌-◌, ◌<◌, ◌≤◌, ◌≡◌, length, map}
use Rattle.std.specs.Vec.{vec_items}
use Rattle.std.specs.List.{HoldsAt}
use Rattle.std.specs.List.Sorted.{IsPartitionPoint}
use Rattle.std.specs.declared.cmp.Ordering.TheVariants.{Less, Equal, Greater}
use Rattle.std.proofs.lemmas.List.{length-map}
use Rattle.iv_ledger.specs.Inside.Seen.{seen, seen_chunk, seen_chunks}
use Rattle.iv_ledger.specs.Entries.{IsLedger}
use Rattle.iv_ledger.proofs.FindLemmas.{found_near, no_chunk, gap, turned}
use Rattle.iv_ledger.proofs.SearchLemmas.{chunk_sorted}
use Rattle.iv_ledger.proofs.SeenLemmas.{holds_seen, inside-seen, seen_at, within-seen}
use Rattle.iv_ledger.proofs.entry_index.find_by_keys.Goals as goal

pub returns-then-starts-eq0-clause-absent : goal.returns-then-starts-eq0-clause-absent
returns-then-starts-eq0-clause-absent g c =
    let cs = c.args.chunks.now in
    let read = g.O.Order.read c.args.order.now in
    no_chunk g.met.O.Order.total (g.O.Seeks.sought c.args.probe.now) (seen_chunks read cs) c.requires.chunks c.chunks_by-starts.result
    (omega (arith, c.chunks_by-starts.ensures.bound, length-map cs (seen_chunk read))) (λ _. c.chunks_by-starts.ensures.parted) c.if-starts-eq0.true

pub search-requires : goal.search-requires
search-requires g c =
    let cs = c.args.chunks.now in
    let read = g.O.Order.read c.args.order.now in
    let x = c.index-chunks-chunk.result in
    let at = c.chunks_by-starts.result - 1 in
    subst (λ xs. IsLedger g.O.Order.cmp (map (seen read) xs)) (sym c.deref.ensures.value)
    (chunk_sorted g.met.O.Order.total (seen_chunks read cs) c.requires.chunks at (seen_chunk read x)
    (omega (arith, c.chunks_by-starts.ensures.bound, c.if-starts-eq0.false, length-map cs (seen_chunk read))) (seen_at (seen_chunk read) cs at x c.index-chunks-chunk.is))

pub returns-in-Ok-clause-found : goal.returns-in-Ok-clause-found
returns-in-Ok-clause-found g c =
    let cmp = g.O.Order.cmp in
    let read = g.O.Order.read c.args.order.now in
    let k = g.O.Seeks.sought c.args.probe.now in
    let cs = c.args.chunks.now in
    let x = c.index-chunks-chunk.result in
    let at = c.chunks_by-starts.result - 1 in
    let i = c.in-Ok.index in
    let same = c.deref.ensures.value in
    let bound : i < length (vec_items x) = subst (λ xs. i < length xs) same c.in-Ok.ensures.bound in
    let equal : HoldsAt (λ e. cmp k (read e.0) ≡ Equal) (vec_items x) i = subst (λ xs. HoldsAt (λ e. cmp k (read e.0) ≡ Equal) xs i) same c.in-Ok.ensures.found in
    found_near cmp k (seen_chunks read cs) at (seen_chunk read x)
    (omega (arith, c.chunks_by-starts.ensures.bound, c.if-starts-eq0.false, length-map cs (seen_chunk read))) (seen_at (seen_chunk read) cs at x c.index-chunks-chunk.is)
    i (omega (arith, bound, length-map (vec_items x) (seen read))) (holds_seen (seen read) (λ e. cmp k e.0 ≡ Equal) (vec_items x) i bound equal)

pub returns-in-Ok-clause-inside : goal.returns-in-Ok-clause-inside
returns-in-Ok-clause-inside g c = inside-seen (g.O.Order.read c.args.order.now) c.args.chunks.now _ (returns-in-Ok-clause-found g c).inside

pub returns-in-Err-clause-absent : goal.returns-in-Err-clause-absent
returns-in-Err-clause-absent g c =
    let o = g.met.O.Order.total in
    let cmp = g.O.Order.cmp in
    let read = g.O.Order.read c.args.order.now in
    let k = g.O.Seeks.sought c.args.probe.now in
    let cs = c.args.chunks.now in
    let x = c.index-chunks-chunk.result in
    let at = c.chunks_by-starts.result - 1 in
    let i = c.in-Err.index in
    let same = c.deref.ensures.value in
    let bound : i ≤ length (vec_items x) = subst (λ xs. i ≤ length xs) same c.in-Err.ensures.absent in
    let halves = subst (λ xs. IsPartitionPoint (λ e. cmp k e.0 ≡ Greater) (λ e. cmp k e.0 ≡ Less) (map (seen read) xs) i) same c.in-Err.ensures.parted in
    gap o k (seen_chunks read cs) c.requires.chunks c.chunks_by-starts.result (omega (arith, c.chunks_by-starts.ensures.bound, length-map cs (seen_chunk read))) (λ _. c.chunks_by-starts.ensures.parted)
    at (omega (arith, c.if-starts-eq0.false)) (seen_at (seen_chunk read) cs at x c.index-chunks-chunk.is) {xs = map (seen read) (vec_items x)} refl i (omega (arith, bound, length-map (vec_items x) (seen read)))
    (λ _. (λ j d from to. turned o k _ Greater (halves.0 j d from to), λ j d from to. turned o k _ Less (halves.1 j d from to)))

pub returns-in-Err-clause-within : goal.returns-in-Err-clause-within
returns-in-Err-clause-within g c = within-seen (g.O.Order.read c.args.order.now) c.args.chunks.now _ (returns-in-Err-clause-absent g c).within
