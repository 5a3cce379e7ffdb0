use Rattle.std.proofs.Common.{◌≡◌, List, All, ap, sym, subst, ◌∙◌}
use Rattle.iv_lines.specs.RecordValue.{RecordValue}
use Rattle.iv_lines.specs.Bed.{Bed}
use Rattle.iv_places.specs.Inside.Places.{ArePlaces, HeldRests, records_at}
use Rattle.iv_places.proofs.PlaceLemmas.{width-said}
use Rattle.iv_places.proofs.places.Places.set_width.Goals as goal

pub invariant_of-self : goal.invariant_of-self
invariant_of-self g c =
    let s = c.self.inside in
    let said = subst (λ (b : Bed). All (λ (r : RecordValue). r.width ≡ c.args.width) b.records) (sym c.self.view_is) c.requires.all in
    subst (λ (r : HeldRests). ArePlaces r.width r.bytes s.places.items) (sym c.set_width.ensures)
    (width-said s.rests.width c.args.width s.rests.bytes s.places.items said c.requires.known.0 c.requires.known.1 c.self.invariant).0

pub returns : goal.returns
returns g c =
    let s = c.self.inside in
    let said = subst (λ (b : Bed). All (λ (r : RecordValue). r.width ≡ c.args.width) b.records) (sym c.self.view_is) c.requires.all in
    let with_rows : List RecordValue → Bed = λ records. record { width = c.args.width; records = records } in
    let wide : Bed → Bed = λ b. record { width = c.args.width; records = b.records } in
    let held : HeldRests → Bed = λ r. record { width = r.width; records = records_at r.width r.bytes s.places.items } in
    ap held c.set_width.ensures
    ∙ ap with_rows (width-said s.rests.width c.args.width s.rests.bytes s.places.items said c.requires.known.0 c.requires.known.1 c.self.invariant).1
    ∙ ap wide c.self.view_is
