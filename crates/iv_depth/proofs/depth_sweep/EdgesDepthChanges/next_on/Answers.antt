use Rattle.std.proofs.Common.{◌≡◌, ℤ, ℕ, Option, Some, subst, sym, rules, w64, to_z, of_z, SFits}
use Rattle.std.proofs.lemmas.Int.{to_z-of_z}
use Rattle.iv_depth.specs.Inside.Edges.{GivesChange}
use Rattle.iv_depth.proofs.EdgeLemmas.{Gives-next}
use Rattle.iv_depth.proofs.depth_sweep.EdgesDepthChanges.next_on.Goals as goal

pub returns-clause-change : goal.returns-clause-change
returns-clause-change c =
    let z = c.in_ok-position.change in
    let fits : SFits w64 z = search rules in
    let same : to_z w64 (of_z w64 z) ≡ z = to_z-of_z w64 z fits in
    Gives-next c.args._seq c.args.self.now (Some (c.from.result, to_z w64 (of_z w64 z))) c.next_change.new.self
    (subst (λ (o : Option (ℕ × ℤ)). GivesChange c.args.self.now o c.next_change.new.self) (λ i. Some (sym c.from.ensures i, sym same i)) c.in_ok-position.ensures.change)
