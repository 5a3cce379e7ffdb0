use Rattle.std.proofs.Common.{◌+◌, ◌≤◌, inl, inr, arith, ap, subst}
use Rattle.std.specs.Prelude.{All}
use Rattle.std.proofs.lemmas.Bool.{cases_lt}
use Rattle.iv_track.specs.Copies.{expanded}
use Rattle.iv_track.specs.Regions.{longest}
use Rattle.iv_track.specs.Tracked.{Tracked}
use Rattle.iv_track.proofs.ClassLemmas.{bound-above, bound-near, placed-expanded}
use Rattle.iv_track.proofs.track.Track.length_bound.Goals as goal

pub returns-clause-up_to : goal.returns-clause-up_to
returns-clause-up_to g c =
    let i = c.self.inside in
    subst (λ (t : Tracked). All (λ r. r.stop ≤ r.start + c.bound.result) t.records) c.self.view_is
    (bound-above i.lengths (expanded i.ledger) c.bound.result c.self.invariant.lengths (placed-expanded i.ledger c.self.invariant.track.placed) c.bound.ensures.above)

pub returns-clause-near : goal.returns-clause-near
returns-clause-near g c =
    let i = c.self.inside in
    elim (cases_lt 0 c.bound.result) [
      | inr none ↦ omega (arith, none)
      | inl some ↦
          let one = c.bound.ensures.near some in
          omega (
            arith,
            bound-near i.lengths (expanded i.ledger) one.0 c.self.invariant.lengths (placed-expanded i.ledger c.self.invariant.track.placed) one.1,
            one.2,
            ap (λ (t : Tracked). longest t.records) c.self.view_is,
          )
    ]
