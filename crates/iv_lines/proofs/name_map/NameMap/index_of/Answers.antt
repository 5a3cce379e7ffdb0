use Rattle.std.proofs.Common.{◌∙◌, ap}
use Rattle.iv_lines.specs.Named.{name_index}
use Rattle.iv_lines.proofs.NamedLemmas.{index-is}
use Rattle.iv_lines.proofs.name_map.NameMap.index_of.Goals as goal

pub returns-clause-value : goal.returns-clause-value
returns-clause-value g c = c.get_index_of.ensures.index ∙ index-is _ c.args.name.now c.self.inside.named.entries ∙ ap (λ s. name_index s c.args.name.now) c.self.view_is
