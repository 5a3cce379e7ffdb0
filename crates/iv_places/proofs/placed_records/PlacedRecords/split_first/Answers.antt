use Rattle.std.proofs.Common.{List, subst, All}
use Rattle.std.proofs.lemmas.List.Elements.{All-tail}
use Rattle.iv_places.specs.declared.placed_records.Place.{Place}
use Rattle.iv_places.specs.Inside.Places.{IsPlace}
use Rattle.iv_places.proofs.placed_records.PlacedRecords.split_first.Goals as goal

pub of_places-requires : goal.of_places-requires
of_places-requires c =
    let is = IsPlace c.self.inside.width c.self.inside.rests.now in
    All-tail is c.in_ok-place.place.now c.in_ok-place.rest.now (subst (λ (ps : List Place). All is ps) c.in_ok-place.ensures.cases.0 c.self.invariant)
