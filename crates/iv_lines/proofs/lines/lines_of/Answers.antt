use Rattle.std.proofs.Common.{◌∙◌}
use Rattle.iv_lines.proofs.LineLemmas.{lines-is}
use Rattle.iv_lines.proofs.lines.lines_of.Goals as goal

pub returns-clause-value : goal.returns-clause-value
returns-clause-value c = c.lines.ensures.value ∙ lines-is c.args.text.now
