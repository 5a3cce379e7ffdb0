use Rattle.iv_lines.proofs.LengthLemmas.{name_at-with_length, rank_of-with_length, length_at-with_length, length_at-other}
use Rattle.iv_lines.proofs.lemmas.one_length_changes.Goals as goal

pub returns-clause-names : goal.returns-clause-names
returns-clause-names c = name_at-with_length

pub returns-clause-ranks : goal.returns-clause-ranks
returns-clause-ranks c = rank_of-with_length

pub returns-clause-changed : goal.returns-clause-changed
returns-clause-changed c = length_at-with_length

pub returns-clause-others : goal.returns-clause-others
returns-clause-others c = length_at-other
