use Rattle.std.proofs.Common.{ap, sym, ◌∙◌, map}
use Rattle.std.proofs.lemmas.Simd.{map-map}
use Rattle.iv_places.specs.Inside.Places.{record_at}
use Rattle.iv_lines.specs.Intervals.{interval_of}
use Rattle.iv_places.proofs.placed_records.PlacedRecords.places.Goals as goal

pub returns-clause-spots : goal.returns-clause-spots
returns-clause-spots c =
    let fields = c.self.inside in
    sym (map-map interval_of (record_at fields.width fields.rests.now) fields.places.now) ∙ ap (map interval_of) c.self.view_is
