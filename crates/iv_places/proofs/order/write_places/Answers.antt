use Rattle.std.proofs.Common.{◌<◌, length, map, take, [], ◌∷◌, ◌++◌, List, slice_index_or, ap, sym, ◌∙◌, arith}
use Rattle.std.proofs.lemmas.Grind.{common_steps}
use Rattle.std.proofs.lemmas.List.{take_more, take_more_set, get_or-map, length-map}
use Rattle.iv_places.specs.Inside.Places.{place_of}
use Rattle.iv_places.specs.declared.order.PrefixKeyed.{PrefixKeyed}
use Rattle.iv_places.specs.declared.placed_records.Place.{Place}
use Rattle.iv_places.proofs.order.write_places.Goals as goal

pub loop-index-preserved : goal.loop-index-preserved
loop-index-preserved g c =
    let i = c.loop-index.index in
    let places = c.loop-index.places.items in
    let keyed = c.args.keyed.now in
    let none : PrefixKeyed = record { head = 0; place = record { interval = record { seq = 0; start = 0; stop = 0 }; rest = 0 } } in
    let read : Place = place_of (slice_index_or keyed i none) in
    let within : i < length keyed = omega (arith, c.loop-index-test.true) in
    record {
      len = grind (arith, common_steps, c.loop-index.invariant.len);
      put =
          take_more_set places i read (omega (arith, within, c.loop-index.invariant.len))
          ∙ ap (λ (l : List Place). l ++ read ∷ []) c.loop-index.invariant.put
          ∙ ap (λ (place : Place). take i (map place_of keyed) ++ place ∷ []) (sym (get_or-map place_of keyed i none (place_of none) within))
          ∙ sym (take_more (map place_of keyed) i (place_of none) (omega (arith, within, length-map keyed place_of)));
    }
