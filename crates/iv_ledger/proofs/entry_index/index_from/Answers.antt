use Rattle.std.proofs.Common.{sym, refl}
use Rattle.std.specs.Ordering.{is_le}
use Rattle.iv_ledger.proofs.MapLemmas.{found_walk, gap_filter}
use Rattle.iv_ledger.proofs.entry_index.index_from.Goals as goal

pub returns-in-Ok-clause-entries : goal.returns-in-Ok-clause-entries
returns-in-Ok-clause-entries g c = sym (found_walk g.met.O.Order.total c.in-Ok.ensures.found refl c.requires.chunks refl)

pub returns-in-Err-clause-entries : goal.returns-in-Err-clause-entries
returns-in-Err-clause-entries g c = sym (gap_filter c.in-Err.ensures.absent refl refl is_le refl refl)
