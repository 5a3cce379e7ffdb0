use Rattle.std.proofs.Common.{◌≡◌, ◌<◌, ◌+◌, ◌-◌, ◌∷◌, length, take, drop, sym, ◌∙◌, ap, arith}
use Rattle.std.proofs.lemmas.Grind.{common_steps}
use Rattle.iv_lines.specs.Fields.{fields}
use Rattle.iv_lines.proofs.FieldLemmas.{fields-some, fields-none, none_there, none_before}
use Rattle.iv_lines.proofs.lines.cut_first_column.Goals as goal

pub returns-in-Some-clause-columns : goal.returns-in-Some-clause-columns
returns-in-Some-clause-columns c =
    let line = c.args.line.now in
    let at = c.in-Some.at in
    let end : take (length line - (at + 1)) (drop (at + 1) line) ≡ drop (at + 1) line = grind (arith, common_steps) in
    fields-some 9 line at c.in-Some.ensures.0 c.in-Some.ensures.1
    ∙ ap (λ t. take at line ∷ fields 9 t) (sym end)

pub returns-in-None-clause-columns : goal.returns-in-None-clause-columns
returns-in-None-clause-columns c = fields-none 9 c.args.line.now c.in-None.ensures

pub returns-in-Some-clause-plain : goal.returns-in-Some-clause-plain
returns-in-Some-clause-plain c =
    let within : c.in-Some.at < length c.args.line.now = c.in-Some.ensures.0.high in
    none_before 9 c.args.line.now c.in-Some.at (omega arith) c.in-Some.ensures.0.before

pub returns-in-None-clause-plain : goal.returns-in-None-clause-plain
returns-in-None-clause-plain c = none_there 9 c.args.line.now c.in-None.ensures
