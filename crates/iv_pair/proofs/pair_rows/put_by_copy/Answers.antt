use Rattle.std.proofs.Common.{sym, subst}
use Rattle.iv_lines.specs.Ordered.{AreInOrder}
use Rattle.iv_places.proofs.BareLemmas.{in_order-bare}
use Rattle.iv_pair.proofs.pair_rows.put_by_copy.Goals as goal

pub join_beside-requires : goal.join_beside-requires
join_beside-requires g c = subst AreInOrder (sym c.in_ok-copy.ensures) (in_order-bare c.args.second.now.records c.requires.second)
