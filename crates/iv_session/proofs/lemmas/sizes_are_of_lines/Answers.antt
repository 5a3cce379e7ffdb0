use Rattle.iv_session.proofs.SizeLemmas.{sizes-ended, sizes-last, length-sizes}
use Rattle.iv_session.proofs.lemmas.sizes_are_of_lines.Goals as goal

pub returns-clause-ended : goal.returns-clause-ended
returns-clause-ended c = sizes-ended

pub returns-clause-last : goal.returns-clause-last
returns-clause-last c = sizes-last

pub returns-clause-as_many : goal.returns-clause-as_many
returns-clause-as_many c = length-sizes
