use Rattle.iv_program.proofs.DoneLemmas.{one-plan}
use Rattle.iv_program.proofs.program.one_plan_at_most.Goals as goal

pub returns : goal.returns
returns c = one-plan
