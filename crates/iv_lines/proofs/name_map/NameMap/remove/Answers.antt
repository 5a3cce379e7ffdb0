use Rattle.std.proofs.Common.{◌∙◌, ap, map}
use Rattle.std.specs.Map.{lookup, remove_entry}
use Rattle.std.specs.Str.{bytes_eq}
use Rattle.iv_lines.proofs.NamedLemmas.{lookup-is, remove-is}
use Rattle.iv_lines.proofs.name_map.NameMap.remove.Goals as goal

pub returns-clause-value : goal.returns-clause-value
returns-clause-value g c = c.shift_remove.ensures.value ∙ lookup-is (λ v. v.items) c.args.name.now c.self.inside.named.entries ∙ ap (lookup (bytes_eq c.args.name.now)) c.self.view_is

pub returns-clause-rest : goal.returns-clause-rest
returns-clause-rest g c =
    ap (map _) c.shift_remove.ensures.entries ∙ remove-is (λ v. v.items) c.args.name.now c.self.inside.named.entries ∙ ap (remove_entry (bytes_eq c.args.name.now)) c.self.view_is
