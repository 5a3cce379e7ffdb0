use Rattle.std.proofs.Common.{◌≡◌, ◌∙◌, sym, ap}
use Rattle.iv_view.specs.contracts.kept_state.StateKeyEq.TheImpl.Laws.{laws-law}
use Rattle.iv_view.specs.contracts.kept_state.StateKeyPartialEq.TheImpl.{eq-value}
use Rattle.iv_view.proofs.SameLemmas.{state_key-same}
use Rattle.iv_view.proofs.kept_state.StateKey.is.Goals as goal

pub returns : goal.returns
returns c =
    let a = c.args.self.now in
    let b = c.args.other.now in
    let says : c.eq.result ≡ eq-value.it a b = c.eq.ensures in
    (λ e. state_key-same a b (sym says ∙ e), λ same. says ∙ sym (ap (eq-value.it a) same) ∙ laws-law.refl a)
