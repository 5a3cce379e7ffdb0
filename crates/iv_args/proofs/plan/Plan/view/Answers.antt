use Rattle.std.proofs.Common.{true, ap, ◌∙◌}
use Rattle.iv_view.specs.Arguments.{read_arguments}
use Rattle.iv_args.specs.Arguments.{RunPlan}
use Rattle.iv_args.proofs.plan.Plan.view.Goals as goal

pub returns : goal.returns
returns g c = c.self.invariant.3 ∙ ap (λ (plan : RunPlan). read_arguments 6 true true plan.view) c.self.view_is
