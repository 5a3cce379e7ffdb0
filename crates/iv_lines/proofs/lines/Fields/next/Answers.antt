use Rattle.std.proofs.Common.{◌≡◌, ◌+◌, ◌-◌, ◌∷◌, length, take, drop, sym, ◌∙◌, ap, arith}
use Rattle.std.proofs.lemmas.Grind.{common_steps}
use Rattle.iv_lines.specs.Fields.{fields, fields_left}
use Rattle.iv_lines.proofs.FieldLemmas.{fields-some, fields-none}
use Rattle.iv_lines.proofs.lines.Fields.next.Goals as goal

pub returns-in-Some : goal.returns-in-Some
returns-in-Some c =
    let separator = c.self.inside.separator in
    let rest = c.in_ok-rest.rest.now in
    let at = c.in-Some.at in
    let end : take (length rest - (at + 1)) (drop (at + 1) rest) ≡ drop (at + 1) rest = grind (arith, common_steps) in
    sym c.self.view_is ∙ ap (fields_left separator) c.in_ok-rest.was
    ∙ fields-some separator rest at c.in-Some.ensures.0 c.in-Some.ensures.1
    ∙ ap (λ t. take at rest ∷ fields separator t) (sym end)

pub returns-in-None : goal.returns-in-None
returns-in-None c =
    sym c.self.view_is ∙ ap (fields_left c.self.inside.separator) c.in_ok-rest.was
    ∙ fields-none c.self.inside.separator c.in_ok-rest.rest.now c.in-None.ensures
