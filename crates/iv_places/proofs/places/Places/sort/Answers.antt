use Rattle.std.proofs.Common.{sym, subst, ◌≡◌, ◌∙◌, ap, List, rules}
use Rattle.std.proofs.lemmas.List.Sorted.{All-permutation, IsPermutation-refl, IsPermutation-trans}
use Rattle.iv_lines.specs.RecordValue.{RecordValue}
use Rattle.iv_lines.specs.Ordered.{ordered}
use Rattle.iv_lines.specs.Bed.{Bed}
use Rattle.iv_places.specs.Inside.Places.{AreInOrder, IsPlace, record_at, records_at}
use Rattle.iv_places.specs.declared.placed_records.Place.{Place}
use Rattle.iv_places.proofs.OrderLemmas.{sorted-rows, sorted-by-rows}
use Rattle.iv_places.proofs.places.Places.sort.Goals as goal

none : Place
none = record { interval = record { seq = 0; start = 0; stop = 0 }; rest = 0 }

pub invariant_of-self : goal.invariant_of-self
invariant_of-self g c =
    let s = c.self.invariant in
    record {
      low = s.low;
      high = s.high;
      all = All-permutation (IsPlace c.self.inside.rests.width c.self.inside.rests.bytes) c.self.inside.places.items c.order_places.new.places.items c.order_places.ensures s.all;
    }

pub invariant_of-self-2 : goal.invariant_of-self-2
invariant_of-self-2 g c =
    let s = c.self.invariant in
    let moved = IsPermutation-trans c.self.inside.places.items c.order_places.new.places.items c.sort_unstable_by.new.self.items c.order_places.ensures c.sort_unstable_by.ensures.permutation in
    record {
      low = s.low;
      high = s.high;
      all = All-permutation (IsPlace c.self.inside.rests.width c.self.inside.rests.bytes) c.self.inside.places.items c.sort_unstable_by.new.self.items moved s.all;
    }

pub returns-then-are_in_order : goal.returns-then-are_in_order
returns-then-are_in_order g c =
    let w = c.width-width.result in
    let rests = c.bytes-rests.result.now in
    let places = c.self.inside.places.items in
    let up : AreInOrder w rests places = subst (AreInOrder w rests) c.deref.ensures.value (c.are_in_order.ensures.0 c.if-are_in_order.true) in
    let with_rows : List RecordValue → Bed = λ records. record { width = c.self.inside.rests.width; records = records } in
    let in_order : Bed → Bed = λ b. record { width = b.width; records = ordered b.records } in
    let same : records_at w rests places ≡ ordered (records_at w rests places) = sorted-rows (record_at w rests) none places places (IsPermutation-refl places) up in
    sym c.self.view_is ∙ ap with_rows (rw (c.bytes-rests.ensures, c.width-width.ensures) at same) ∙ ap in_order c.self.view_is

pub returns : goal.returns
returns g c =
    let w = c.width-width.result in
    let rests = c.bytes-rests.result.now in
    let old = c.self.inside.places.items in
    let new = c.sort_unstable_by.new.self.items in
    let moved = IsPermutation-trans old c.order_places.new.places.items new c.order_places.ensures c.sort_unstable_by.ensures.permutation in
    let with_rows : List RecordValue → Bed = λ records. record { width = c.self.inside.rests.width; records = records } in
    let in_order : Bed → Bed = λ b. record { width = b.width; records = ordered b.records } in
    let same : records_at w rests new ≡ ordered (records_at w rests old) = sorted-rows (record_at w rests) none old new moved
    (sorted-by-rows (record_at w rests) new c.sort_unstable_by.ensures.sorted (λ a r f' k. search rules)) in
    ap with_rows (rw (c.bytes-rests.ensures, c.width-width.ensures) at same) ∙ ap in_order c.self.view_is
