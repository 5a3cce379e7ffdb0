use Rattle.iv_workspace.proofs.StateLemmas.{own-some, own-none, own-other}
use Rattle.iv_workspace.proofs.views.OpenView.state_for.Goals as goal

pub returns-then-is_kept_as-clause-some : goal.returns-then-is_kept_as-clause-some
returns-then-is_kept_as-clause-some g c = own-some c.as_ref.result c.args.self.now.state _ c.as_ref.ensures.value (c.is_kept_as.ensures.0 c.if-is_kept_as.true)

pub returns-then-is_kept_as-clause-none : goal.returns-then-is_kept_as-clause-none
returns-then-is_kept_as-clause-none g c = own-none c.as_ref.result c.args.self.now c.args.what c.as_ref.ensures.value

pub returns-else-is_kept_as-clause-none : goal.returns-else-is_kept_as-clause-none
returns-else-is_kept_as-clause-none g c = λ none. own-other c.args.self.now c.args.what (λ is. absurd (cc (c.is_kept_as.ensures.1 is, c.if-is_kept_as.false)))
