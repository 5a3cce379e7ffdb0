use Rattle.std.proofs.Common.{◌≡◌, ◌∷◌, [], ◌++◌, ◌∙◌, List, ap, sym, subst}
use Rattle.iv_lines.specs.Bed.{Bed}
use Rattle.iv_lines.specs.Widths.{IsWidth}
use Rattle.iv_places.specs.Inside.Places.{ArePlaces, HeldRests}
use Rattle.iv_places.specs.declared.placed_records.Place.{Place}
use Rattle.iv_places.proofs.PlaceLemmas.{ArePlacesOf, are-kept, places-wide, push-are}
use Rattle.iv_places.proofs.places.Places.hold.Given.{Over}
use Rattle.iv_places.proofs.places.Places.hold.Goals.{After-keep, In_ok-push}
use Rattle.iv_places.proofs.places.Places.hold.Goals as goal

-- the places before, with the rests after the call
before : (g : Over) (c : After-keep g) → ArePlacesOf c.args.self.now.records c.keep.new.self.width c.keep.new.self.bytes c.self.inside.places.items
before g c =
    let s = c.self.inside in
    let r = c.args.feature.now in
    let known : IsWidth r.width = subst IsWidth c.width.ensures.value c.width.ensures.known in
    let first : ArePlacesOf c.args.self.now.records c.width.result s.rests.bytes s.places.items =
    places-wide s.rests.width c.width.result s.rests.bytes s.places.items c.args.self.now.records r c.width.ensures.value known c.requires
    (c.self.invariant, ap (λ (b : Bed). b.records) c.self.view_is) in
    let said : ArePlacesOf c.args.self.now.records c.set_width.new.self.width c.set_width.new.self.bytes s.places.items =
    subst (λ (h : HeldRests). ArePlacesOf c.args.self.now.records h.width h.bytes s.places.items) (sym c.set_width.ensures) first in
    are-kept c.set_width.new.self.width c.set_width.new.self.bytes c.keep.new.self.width c.keep.new.self.bytes s.places.items c.args.self.now.records c.keep.ensures.width c.keep.ensures.kept said

pub invariant_of-self : goal.invariant_of-self
invariant_of-self g c = (before g (goal.at.invariant_of-self g c).After-keep).0

pub invariant_of-self-in_err-push : goal.invariant_of-self-in_err-push
invariant_of-self-in_err-push g c =
    subst (λ (ps : List Place). ArePlaces c.keep.new.self.width c.keep.new.self.bytes ps) (sym c.in_err-push.ensures.items) (before g (goal.at.invariant_of-self-in_err-push g c).After-keep).0

-- the places with that of the record
after : (g : Over) (c : In_ok-push g) → ArePlacesOf c.args.self.now.records c.keep.new.self.width c.keep.new.self.bytes c.self.inside.places.items
    → ArePlacesOf (c.args.self.now.records ++ c.args.feature.now ∷ []) c.keep.new.self.width c.keep.new.self.bytes c.push.new.self.items
after g c known =
    push-are c.keep.new.self.width c.keep.new.self.bytes c.self.inside.places.items c.push.new.self.items c.in_ok-place.place c.args.self.now.records c.args.feature.now
    c.in_ok-push.ensures.items known c.in_ok-place.ensures.key

pub invariant_of-self-2 : goal.invariant_of-self-2
invariant_of-self-2 g c = (after g (goal.at.invariant_of-self-2 g c).In_ok-push (before g (goal.at.invariant_of-self-2 g c).After-keep)).0

pub returns : goal.returns
returns g c =
    let records = (after g (goal.at.returns g c).In_ok-push (before g (goal.at.returns g c).After-keep)).1 in
    let width : c.keep.new.self.width ≡ c.args.feature.now.width = c.keep.ensures.width ∙ ap (λ (h : HeldRests). h.width) c.set_width.ensures ∙ c.width.ensures.value in
    λ i. record { width = width i; records = records i }
