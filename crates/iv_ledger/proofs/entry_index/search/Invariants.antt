use Rattle.std.proofs.Common.{◌≡◌, ◌-◌, ◌≤◌, length, map}
use Rattle.std.specs.List.{AllWithin}
use Rattle.std.specs.declared.cmp.Ordering.TheVariants.{Less, Greater}
use Rattle.iv_ledger.specs.Inside.Seen.{seen}
use Rattle.iv_ledger.proofs.entry_index.search.Given as goal

abbrev pub invariant-loop-low : goal.invariant-loop-low
invariant-loop-low g l = record {
  in_order : l.low ≤ l.high;
  in_range : l.high ≤ length l.entries;
  below : AllWithin (λ e. g.O.Order.cmp (g.O.Seeks.sought l.probe) e.0 ≡ Greater) (map (seen (g.O.Order.read l.order)) l.entries) 0 l.low;
  above : AllWithin (λ e. g.O.Order.cmp (g.O.Seeks.sought l.probe) e.0 ≡ Less) (map (seen (g.O.Order.read l.order)) l.entries) l.high (length l.entries);
}

abbrev pub decreases-loop-low : goal.decreases-loop-low
decreases-loop-low g l = l.high - l.low
