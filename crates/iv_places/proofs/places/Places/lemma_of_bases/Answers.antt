use Rattle.std.proofs.Common.{◌<◌, All, subst}
use Rattle.std.proofs.lemmas.List.Elements.{All-map}
use Rattle.iv_lines.specs.Bed.{Bed}
use Rattle.iv_lines.specs.RecordValue.{RecordValue}
use Rattle.iv_places.specs.Inside.Places.{record_at}
use Rattle.iv_places.proofs.PlaceLemmas.{all-based}
use Rattle.iv_places.proofs.places.Places.lemma_of_bases.Goals as goal

pub returns : goal.returns
returns g c =
    let b = c.self.inside in
    subst (λ (bed : Bed). All (λ (r : RecordValue). r.start < r.stop) bed.records) c.self.view_is
    (All-map (λ (r : RecordValue). r.start < r.stop) (record_at b.rests.width b.rests.bytes) b.places.items (all-based b.rests.width b.rests.bytes b.places.items c.self.invariant.all))
