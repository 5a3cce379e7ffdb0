use Rattle.std.proofs.Common.{◌∙◌, ap, ◌≡◌, ◌++◌, ◌∷◌, [], map}
use Rattle.std.specs.Str.{bytes_eq}
use Rattle.iv_lines.specs.Named.{name_index}
use Rattle.iv_lines.proofs.NamedLemmas.{push-is}
use Rattle.iv_lines.proofs.name_map.NameMap.push.Goals as goal

pub returns-clause-ok : goal.returns-clause-ok
returns-clause-ok g c =
    let key : c.extend_from_slice.new.self.items ≡ c.args.name.now =
    c.in_ok-extend_from_slice.ensures.items ∙ ap (λ t. t ++ c.args.name.now) c.new-key.ensures.items in
    ap (map _) c.in_ok-insert.ensures.entries
    ∙ push-is (λ v. v.items) _ c.self.inside.named c.extend_from_slice.new.self c.args.value c.args.name.now
    (λ x. ap (λ t. bytes_eq t x.items) key) key
    (ap (λ s. name_index s c.args.name.now) c.self.view_is ∙ c.requires.fresh)
    ∙ ap (λ s. s ++ (c.args.name.now, c.args.value) ∷ []) c.self.view_is
