use Rattle.std.proofs.Common.{rules, ◌≡◌, true, false, arith}
use Rattle.std.specs.Vec.{vec_items}
use Rattle.std.proofs.lemmas.List.{length-map}
use Rattle.iv_ledger.specs.Inside.Chunks.{starts_by}
use Rattle.iv_ledger.specs.Inside.Seen.{seen_chunk, seen_chunks}
use Rattle.iv_ledger.proofs.FindLemmas.{partitioned}
use Rattle.iv_ledger.proofs.SearchLemmas.{up_to_true, from_false_of}
use Rattle.iv_ledger.proofs.SeenLemmas.{seen_at}
use Rattle.iv_ledger.proofs.entry_index.chunks_by.Goals as goal

pub loop-low-preserved-then-starts_until : goal.loop-low-preserved-then-starts_until
loop-low-preserved-then-starts_until g c =
    let cmp = g.O.Order.cmp in
    let read = g.O.Order.read c.args.order.now in
    let k = g.O.Seeks.sought c.args.probe.now in
    let cs = c.args.chunks.now in
    let at = c.middle-at.result in
    let x = c.index-chunks-at.result in
    let mid = c.middle-at.ensures (omega (arith, c.loop-low-test.true)) in
    let high = c.loop-low.invariant.in_range in
    let passes : starts_by cmp k (vec_items (seen_chunk read x)) ≡ true = search rules in
    record {
      in_order = omega (arith, mid);
      in_range = high;
      begun = up_to_true (λ c. starts_by cmp k (vec_items c)) (seen_chunks read cs) at (seen_chunk read x) (partitioned g.met.O.Order.total k (seen_chunks read cs) c.requires) (omega (arith, mid, high, length-map cs (seen_chunk read))) (seen_at (seen_chunk read) cs at x c.index-chunks-at.is) passes;
      later = c.loop-low.invariant.later;
    }

pub loop-low-preserved : goal.loop-low-preserved
loop-low-preserved g c =
    let cmp = g.O.Order.cmp in
    let read = g.O.Order.read c.args.order.now in
    let k = g.O.Seeks.sought c.args.probe.now in
    let cs = c.args.chunks.now in
    let at = c.middle-at.result in
    let x = c.index-chunks-at.result in
    let mid = c.middle-at.ensures (omega (arith, c.loop-low-test.true)) in
    let high = c.loop-low.invariant.in_range in
    let fails : starts_by cmp k (vec_items (seen_chunk read x)) ≡ false = search rules in
    record {
      in_order = omega (arith, mid);
      in_range = omega (arith, mid, high);
      begun = c.loop-low.invariant.begun;
      later = from_false_of (λ c. starts_by cmp k (vec_items c)) (seen_chunks read cs) at (seen_chunk read x) (partitioned g.met.O.Order.total k (seen_chunks read cs) c.requires) (omega (arith, mid, high, length-map cs (seen_chunk read))) (seen_at (seen_chunk read) cs at x c.index-chunks-at.is) (length-map cs (seen_chunk read)) fails;
    }
