use Rattle.std.proofs.Common.{◌≡◌, ◌∷◌, Some, arith, sym, subst}
use Rattle.std.specs.Prelude.{IfSome}
use Rattle.iv_lines.proofs.NamedLemmas.{length-set_value_at}
use Rattle.iv_view.specs.KeptStates.{built_for, state_key_of, IsRight}
use Rattle.iv_workspace.specs.Inside.ViewStates.{HaveStates, all_owned, all_seen, kept_with}
use Rattle.iv_workspace.proofs.StateLemmas.{handed-in, handed-seen}
use Rattle.iv_workspace.proofs.views.Views.hand_on.Goals as goal

pub invariant_of-self : goal.invariant_of-self
invariant_of-self g c = omega (arith, length-set_value_at c.self.inside.views c.in-Some-first_in_need.index c.take_over.new.self, c.self.invariant)

pub returns-clause-seen : goal.returns-clause-seen
returns-clause-seen g c = handed-seen _ _ c.self.view_is c.in-Some-first_in_need.index _ c.index_mut-opened.ensures.value _ c.in-Some.state c.take_over.ensures

pub returns-clause-right : goal.returns-clause-right
returns-clause-right g c = λ names records own have state.
    handed-in _ _ c.self.view_is c.in-Some-first_in_need.index _ c.index_mut-opened.ensures.value _ c.in-Some.state c.take_over.ensures
    c.in-Some-state_key.what c.args.closed names records (sym c.in-Some-state_key.ensures) c.in-Some-first_in_need.ensures.0 own
    (subst (λ s. HaveStates (kept_with c.args.closed s ∷ all_owned c.args.self.now) (all_seen c.args.self.now)) c.in-Some.is have)
    (subst (λ s. IfSome s (λ k. (state_key_of c.args.closed ≡ Some (built_for k)) × IsRight k names records)) c.in-Some.is state)
