use Rattle.iv_session.proofs.EndingLemmas.{too_long-exact, done-none, stopped-noticed, stopped-ran}
use Rattle.iv_session.proofs.lemmas.too_long_is_exact.Goals as goal

pub returns-clause-exact : goal.returns-clause-exact
returns-clause-exact c = too_long-exact

pub returns-clause-done : goal.returns-clause-done
returns-clause-done c = done-none

pub returns-clause-noticed : goal.returns-clause-noticed
returns-clause-noticed c = stopped-noticed

pub returns-clause-ran : goal.returns-clause-ran
returns-clause-ran c = stopped-ran
