use Rattle.std.proofs.Common.{arith}
use Rattle.std.proofs.lemmas.List.{length-map}
use Rattle.iv_ledger.specs.Inside.Seen.{seen_chunk}
use Rattle.iv_ledger.proofs.SeenLemmas.{inside-seen, within-back}
use Rattle.iv_ledger.proofs.entry_index.find.Goals as goal

pub returns-in-Ok-clause-inside : goal.returns-in-Ok-clause-inside
returns-in-Ok-clause-inside g c = inside-seen (g.O.Order.read c.args.order.now) c.args.chunks.now c.in-Ok.at c.in-Ok.ensures.found.inside

pub returns-then-is_below_next-clause-absent : goal.returns-then-is_below_next-clause-absent
returns-then-is_below_next-clause-absent g c =
    let read = g.O.Order.read c.args.order.now in
    let cs = c.args.chunks.now in
    record {
      within = within-back read cs c.in-Err.gap c.in-Err.ensures.absent;
      first_is_first = c.is_above_last.ensures.first c.if-is_above_last.true;
      some_before = λ some. omega (arith, c.is_above_last.ensures.chunk c.if-is_above_last.true some, length-map cs (seen_chunk read));
      below = c.is_above_last.ensures.entries c.if-is_above_last.true;
      above = c.is_below_next.ensures c.if-is_below_next.true;
    }
