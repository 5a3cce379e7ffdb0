use Rattle.std.proofs.Common.{◌∙◌, ap, slice_get}
use Rattle.iv_lines.proofs.NamedLemmas.{at-is}
use Rattle.iv_lines.proofs.name_map.NameMap.at.Goals as goal

pub returns-clause-value : goal.returns-clause-value
returns-clause-value g c =
    rw c.as_slice-2.ensures.value
    (at-is (λ v. v.items) c.self.inside.named.entries c.args.index c.in_ok-name.name.now c.in_ok-name.value.now (c.in_ok-name.ensures.entry ∙ ap (λ es. slice_get es c.args.index) c.as_slice.ensures.entries)
    ∙ ap (λ s. slice_get s c.args.index) c.self.view_is)
