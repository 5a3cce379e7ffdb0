use Rattle.std.proofs.Common.{rules, sym}
use Rattle.iv_cover.proofs.ParsedNumberLemmas.{spelled-position}
use Rattle.iv_cover.proofs.number.ParsedNumber.of_position.Goals as goal

pub returns-clause-value : goal.returns-clause-value
returns-clause-value c = search (rules, sym (spelled-position c.args.position c.requires))
