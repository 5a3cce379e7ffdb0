use Rattle.std.proofs.Common.{◌∙◌, ap, refl}
use Rattle.indexmap.specs.Layout.{set_value_at}
use Rattle.iv_lines.proofs.NamedLemmas.{value-at, set-is}
use Rattle.iv_lines.proofs.name_map.NameMapIndexMutUsize.index_mut.Goals as goal

pub returns : goal.returns
returns g c = (
  (refl, λ w. set-is (λ v. v.items) c.self.inside.named.entries c.args.index w ∙ ap (λ s. set_value_at s c.args.index w) c.self.view_is),
  record { writes_back = tt; value = value-at (λ v. v.items) _ _ c.self.view_is c.args.index _ c.index_mut.ensures.value },
)
