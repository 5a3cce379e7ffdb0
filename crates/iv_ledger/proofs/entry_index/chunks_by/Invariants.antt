use Rattle.std.proofs.Common.{◌≡◌, ◌-◌, ◌≤◌, length, true, false}
use Rattle.std.specs.Vec.{vec_items}
use Rattle.std.specs.List.{AllWithin}
use Rattle.iv_ledger.specs.Inside.Chunks.{starts_by}
use Rattle.iv_ledger.specs.Inside.Seen.{seen_chunks}
use Rattle.iv_ledger.proofs.entry_index.chunks_by.Given as goal

abbrev pub invariant-loop-low : goal.invariant-loop-low
invariant-loop-low g l = record {
  in_order : l.low ≤ l.high;
  in_range : l.high ≤ length l.chunks;
  begun : AllWithin (λ c. starts_by g.O.Order.cmp (g.O.Seeks.sought l.probe) (vec_items c) ≡ true) (seen_chunks (g.O.Order.read l.order) l.chunks) 0 l.low;
  later : AllWithin (λ c. starts_by g.O.Order.cmp (g.O.Seeks.sought l.probe) (vec_items c) ≡ false) (seen_chunks (g.O.Order.read l.order) l.chunks) l.high (length l.chunks);
}

abbrev pub decreases-loop-low : goal.decreases-loop-low
decreases-loop-low g l = l.high - l.low
