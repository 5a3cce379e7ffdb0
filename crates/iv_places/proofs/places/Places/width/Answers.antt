use Rattle.std.proofs.Common.{◌≡◌, ℕ, All, sym, subst}
use Rattle.iv_lines.specs.Bed.{Bed}
use Rattle.iv_lines.specs.RecordValue.{RecordValue}
use Rattle.iv_places.proofs.PlaceLemmas.{each-width}
use Rattle.iv_places.proofs.places.Places.width.Goals as goal

pub returns-clause-each : goal.returns-clause-each
returns-clause-each g c =
    let b = c.self.inside in
    subst (λ (n : ℕ). All (λ (r : RecordValue). r.width ≡ n) c.args.self.now.records) (sym c.width.ensures)
    (subst (λ (bed : Bed). All (λ (r : RecordValue). r.width ≡ b.rests.width) bed.records) c.self.view_is (each-width b.rests.width b.rests.bytes b.places.items))
