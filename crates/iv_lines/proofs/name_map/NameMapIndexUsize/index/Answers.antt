use Rattle.iv_lines.proofs.NamedLemmas.{value-at}
use Rattle.iv_lines.proofs.name_map.NameMapIndexUsize.index.Goals as goal

pub returns : goal.returns
returns g c = value-at (λ v. v.items) _ _ c.self.view_is c.args.index _ c.index.ensures
