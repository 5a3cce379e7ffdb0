use Rattle.std.proofs.Common.{subst}
use Rattle.iv_lines.specs.Named.{AreApart}
use Rattle.iv_lines.proofs.NamedLemmas.{ranked-is}
use Rattle.iv_lines.proofs.name_map.NameMap.lemma_of_names.Goals as goal

pub returns : goal.returns
returns g c = subst AreApart c.self.view_is (ranked-is (λ v. v.items) c.self.inside.named.entries c.len-count.ensures.unique)
