-- Places that are joined one by one.
use Rattle.std.specs.Prelude.{◌==◌, ◌&&◌, nat_le, max, Bool, cond, List, [], ◌∷◌}
use Rattle.iv_places.specs.declared.placed_records.Place.{Place}

-- a place is on the sequence of one that doesn't start past it, and starts at its stop or before
abbrev pub touches : Place → Place → Bool
touches last place = (last.interval.seq == place.interval.seq) && nat_le place.interval.start last.interval.stop

-- the two as one place, with the rest of the first
abbrev pub grown : Place → Place → Place
grown last place = record last { interval = record last.interval { stop = max last.interval.stop place.interval.stop } }

-- the first of places in order, and those after it, each joined to the one before it if they touch
abbrev pub joined_from : Place → List Place → List Place
joined_from last [] = last ∷ []
joined_from last (place ∷ places) = cond (touches last place) (joined_from (grown last place) places) (last ∷ joined_from place places)

-- places in order, each joined to the one before it if they touch
abbrev pub joined_places : List Place → List Place
joined_places [] = []
joined_places (place ∷ places) = joined_from place places
