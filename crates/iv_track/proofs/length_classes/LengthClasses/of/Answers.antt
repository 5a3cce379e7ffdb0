use Rattle.std.proofs.Common.{rules, ◌∙◌, ◌-◌, ap}
use Rattle.std.specs.Int.Count.{count_leading_zeros}
use Rattle.iv_places.specs.declared.placed_records.Place.{Place}
use Rattle.iv_track.proofs.ClassLemmas.{counted-one}
use Rattle.iv_track.proofs.length_classes.LengthClasses.of.Goals as goal

abbrev no_place : Place
no_place = record { interval = record { seq = 0; start = 0; stop = 0 }; rest = 0 }

pub loop-place-preserved : goal.loop-place-preserved
loop-place-preserved c =
    let l = c.loop-place in
    let places = c.places-place-items.result.now in
    counted-one l.classes c.add.new.self c.args.records.now places no_place l.place-index c.class_of_length.result c.places-place-items.ensures.spots c.loop-place-test.true
    (c.places-place-items.ensures.some l.place-index no_place c.loop-place-test.true) (search rules) (search rules)
    (c.class_of_length.ensures.is ∙ ap (λ n. 32 - count_leading_zeros 32 n) c.from.ensures) c.class_of_length.ensures.within c.add.ensures l.invariant
