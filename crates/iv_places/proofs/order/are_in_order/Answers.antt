use Rattle.std.proofs.Common.{rules}
use Rattle.iv_lines.specs.RecordValue.{record_cmp}
use Rattle.std.specs.Ordering.{is_lt}
use Rattle.iv_places.specs.Inside.Places.{record_at}
use Rattle.iv_places.proofs.OrderLemmas.{in-order}
use Rattle.iv_places.proofs.order.are_in_order.Goals as goal

pub returns : goal.returns
returns c =
    let w = c.args.width in
    let rests = c.args.rests.now in
    in-order (record { interval = record { seq = 0; start = 0; stop = 0 }; rest = 0 }) (λ x y. is_lt (record_cmp (record_at w rests x) (record_at w rests y))) c.args.places.now c.is_sorted_by.result c.is_sorted_by.ensures.cases (λ a s f' k. search rules)
