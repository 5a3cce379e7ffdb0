use Rattle.iv_session.proofs.SizeLemmas.{over-none, over-found}
use Rattle.iv_session.proofs.lemmas.first_over_is_first.Goals as goal

pub returns-clause-none : goal.returns-clause-none
returns-clause-none c = over-none

pub returns-clause-first : goal.returns-clause-first
returns-clause-first c = over-found
