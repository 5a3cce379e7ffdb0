use Rattle.std.proofs.Common.{sym, refl, arith}
use Rattle.std.specs.Ordering.{is_lt}
use Rattle.iv_ledger.proofs.MapLemmas.{found_after, gap_filter, small_index}
use Rattle.iv_ledger.proofs.entry_index.index_after.Goals as goal

pub overflow_add-result : goal.overflow_add-result
overflow_add-result g c = omega (arith, small_index c.args.chunks.now c.in-Ok.at c.requires.filled c.in-Ok.ensures.inside)

pub returns-in-Ok-clause-entries : goal.returns-in-Ok-clause-entries
returns-in-Ok-clause-entries g c = sym (found_after g.met.O.Order.total c.in-Ok.ensures.found refl c.requires.chunks refl)

pub returns-in-Err-clause-entries : goal.returns-in-Err-clause-entries
returns-in-Err-clause-entries g c = sym (gap_filter c.in-Err.ensures.absent refl refl is_lt refl refl)
