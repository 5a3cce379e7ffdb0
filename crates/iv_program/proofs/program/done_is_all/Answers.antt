use Rattle.iv_program.proofs.DoneLemmas.{notice-done, none-waits, plan-all-done}
use Rattle.iv_program.proofs.program.done_is_all.Goals as goal

pub returns-clause-notice : goal.returns-clause-notice
returns-clause-notice c = notice-done

pub returns-clause-plan : goal.returns-clause-plan
returns-clause-plan c = plan-all-done

pub returns-clause-flushed : goal.returns-clause-flushed
returns-clause-flushed c = none-waits
