use Rattle.iv_lines.proofs.LineLemmas.{lines-last}
use Rattle.iv_lines.proofs.lemmas.last_line_ends_at_end.Goals as goal

pub returns-clause-last : goal.returns-clause-last
returns-clause-last c = lines-last
