use Rattle.std.proofs.Common.{◌≡◌, inl, inr, refl, true, subst, arith}
use Rattle.iv_lines.proofs.NamedLemmas.{length-set_value_at}
use Rattle.iv_lines.specs.Named.{names_of}
use Rattle.iv_workspace.specs.Inside.ViewStates.{IsMissing, all_owned}
use Rattle.iv_bytes.proofs.PutLemmas.{OnErr-all}
use Rattle.iv_workspace.proofs.StateLemmas.{current-there, stale-there, renewed-in, renewed-seen, same-there}
use Rattle.iv_workspace.proofs.views.Views.refresh_at.Goals as goal

pub returns-then-not-opened-clause-ok : goal.returns-then-not-opened-clause-ok
returns-then-not-opened-clause-ok g c = current-there _ _ c.self.view_is c.args.index _ c.index-opened.ensures c.if-not-opened.true

pub returns-in_err-state-clause-stale : goal.returns-in_err-state-clause-stale
returns-in_err-state-clause-stale g c = OnErr-all c.from_residual.result (stale-there _ _ c.self.view_is c.args.index _ c.index-opened.ensures c.if-not-opened.false)

pub invariant_of-self : goal.invariant_of-self
invariant_of-self g c = omega (arith, length-set_value_at c.self.inside.views c.args.index c.renew.new.self, c.self.invariant)

pub returns-clause-right : goal.returns-clause-right
returns-clause-right g c =
    let same = same-there _ _ c.index-opened.ensures c.index_mut-opened.ensures.value in
    renewed-in _ _ c.self.view_is c.args.index _ c.index_mut-opened.ensures.value _ c.in_ok-state.state c.renew.ensures
    (names_of c.args.genome.now) c.args.track.now.records (subst (λ v. v.stale ≡ true) same c.if-not-opened.false)
    (subst (λ v. IsMissing (all_owned c.args.self.now) v.view (names_of c.args.genome.now) c.args.track.now.records c.in_ok-state.state) same c.in_ok-state.ensures) c.requires.right

pub returns-clause-ok : goal.returns-clause-ok
returns-clause-ok g c = renewed-seen _ _ c.self.view_is c.args.index _ c.index_mut-opened.ensures.value _ c.in_ok-state.state c.renew.ensures

pub returns-then-not-opened-clause-steps : goal.returns-then-not-opened-clause-steps
returns-then-not-opened-clause-steps g c = inl refl

pub returns-in_err-state-clause-steps : goal.returns-in_err-state-clause-steps
returns-in_err-state-clause-steps g c = inr (stale-there _ _ c.self.view_is c.args.index _ c.index-opened.ensures c.if-not-opened.false)

pub returns-clause-steps : goal.returns-clause-steps
returns-clause-steps g c = inr (stale-there _ _ c.self.view_is c.args.index _ c.index-opened.ensures c.if-not-opened.false)
