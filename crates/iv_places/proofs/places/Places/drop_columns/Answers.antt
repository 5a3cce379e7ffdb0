use Rattle.std.proofs.Common.{List, map, ap, ◌∙◌}
use Rattle.iv_lines.specs.RecordValue.{RecordValue}
use Rattle.iv_lines.specs.Bed.{Bed}
use Rattle.iv_lines.specs.Intervals.{bare}
use Rattle.iv_places.specs.Inside.Places.{HeldRests, records_at}
use Rattle.iv_places.proofs.BareLemmas.{rows-bare}
use Rattle.iv_places.proofs.places.Places.drop_columns.Goals as goal

pub returns : goal.returns
returns g c =
    let s = c.self.inside in
    let with_rows : List RecordValue → Bed = λ records. record { width = 3; records = records } in
    let dropped : Bed → Bed = λ b. record { width = 3; records = map bare b.records } in
    let held : HeldRests → Bed = λ r. record { width = r.width; records = records_at r.width r.bytes s.places.items } in
    ap held c.set_width.ensures ∙ ap with_rows (rows-bare s.rests.width s.rests.bytes s.places.items) ∙ ap dropped c.self.view_is
