use Rattle.std.proofs.Common.{rules, ◌≡◌, map, arith}
use Rattle.std.specs.declared.cmp.Ordering.TheVariants.{Less, Greater}
use Rattle.std.proofs.lemmas.List.{length-map}
use Rattle.iv_ledger.specs.Inside.Seen.{seen}
use Rattle.iv_ledger.proofs.SearchLemmas.{up_to_greater, from_less_of}
use Rattle.iv_ledger.proofs.SeenLemmas.{seen_at}
use Rattle.iv_ledger.proofs.entry_index.search.Goals as goal

pub loop-low-preserved-in-Greater : goal.loop-low-preserved-in-Greater
loop-low-preserved-in-Greater g c =
    let cmp = g.O.Order.cmp in
    let read = g.O.Order.read c.args.order.now in
    let k = g.O.Seeks.sought c.args.probe.now in
    let xs = c.args.entries.now in
    let at = c.middle-at.result in
    let x = c.index-entries-at.result in
    let mid = c.middle-at.ensures (omega (arith, c.loop-low-test.true)) in
    let high = c.loop-low.invariant.in_range in
    let above : cmp k (read x.0) ≡ Greater = search rules in
    record {
      in_order = omega (arith, mid);
      in_range = high;
      below = up_to_greater g.met.O.Order.total (map (seen read) xs) c.requires k at (seen read x) (omega (arith, mid, high, length-map xs (seen read))) (seen_at (seen read) xs at x c.index-entries-at.is) above;
      above = c.loop-low.invariant.above;
    }

pub loop-low-preserved : goal.loop-low-preserved
loop-low-preserved g c =
    let cmp = g.O.Order.cmp in
    let read = g.O.Order.read c.args.order.now in
    let k = g.O.Seeks.sought c.args.probe.now in
    let xs = c.args.entries.now in
    let at = c.middle-at.result in
    let x = c.index-entries-at.result in
    let mid = c.middle-at.ensures (omega (arith, c.loop-low-test.true)) in
    let high = c.loop-low.invariant.in_range in
    let below : cmp k (read x.0) ≡ Less = search rules in
    record {
      in_order = omega (arith, mid);
      in_range = omega (arith, mid, high);
      below = c.loop-low.invariant.below;
      above = from_less_of g.met.O.Order.total (map (seen read) xs) c.requires k at (seen read x) (omega (arith, mid, high, length-map xs (seen read))) (seen_at (seen read) xs at x c.index-entries-at.is) (length-map xs (seen read)) below;
    }
