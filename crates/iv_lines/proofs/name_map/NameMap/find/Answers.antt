use Rattle.std.proofs.Common.{◌∙◌, ap}
use Rattle.std.specs.Map.{lookup}
use Rattle.std.specs.Str.{bytes_eq}
use Rattle.iv_lines.specs.Named.{name_index}
use Rattle.iv_lines.proofs.NamedLemmas.{index-is, lookup-is, value-at, value-of}
use Rattle.iv_lines.proofs.name_map.NameMap.find.Goals as goal

pub returns-in-Some-clause-index : goal.returns-in-Some-clause-index
returns-in-Some-clause-index g c = c.in-Some.ensures.index ∙ index-is _ c.args.name.now c.self.inside.named.entries ∙ ap (λ s. name_index s c.args.name.now) c.self.view_is

pub returns-in-Some-clause-value : goal.returns-in-Some-clause-value
returns-in-Some-clause-value g c = c.in-Some.ensures.value ∙ lookup-is (λ v. v.items) c.args.name.now c.self.inside.named.entries ∙ ap (lookup (bytes_eq c.args.name.now)) c.self.view_is

pub returns-in-Some-clause-at : goal.returns-in-Some-clause-at
returns-in-Some-clause-at g c = value-at (λ v. v.items) _ _ c.self.view_is c.in-Some.index _ (value-of c.self.inside.named.entries c.in-Some.index _ _ c.in-Some.ensures.entry)

pub returns-in-None-clause-index : goal.returns-in-None-clause-index
returns-in-None-clause-index g c = c.in-None.ensures.index ∙ index-is _ c.args.name.now c.self.inside.named.entries ∙ ap (λ s. name_index s c.args.name.now) c.self.view_is

pub returns-in-None-clause-value : goal.returns-in-None-clause-value
returns-in-None-clause-value g c = c.in-None.ensures.value ∙ lookup-is (λ v. v.items) c.args.name.now c.self.inside.named.entries ∙ ap (lookup (bytes_eq c.args.name.now)) c.self.view_is
