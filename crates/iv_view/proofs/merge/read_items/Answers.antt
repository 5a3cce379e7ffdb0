use Rattle.std.proofs.Common.{◌∙◌, ℕ, ◌≤◌, List, None, map, length, nat_le, le-leb, sym, ap, arith}
use Rattle.std.proofs.lemmas.Bool.{cond-true}
use Rattle.iv_lines.specs.Fields.{fields}
use Rattle.iv_lines.specs.Bytes.{comma}
use Rattle.iv_view.specs.Lists.{all_some}
use Rattle.iv_view.proofs.ListLemmas.{with_rest, rest-ends}
use Rattle.iv_view.proofs.merge.read_items.Goals as goal

pub returns : goal.returns
returns g c =
    let i = c.loop-field.invariant in
    let says = g.T.Item.says in
    let all = fields comma c.args.text.now in
    let done = c.loop-field.items.items in
    let few : length all ≤ 16 = omega (arith, i.few, i.count, ap length c.in_default.ensures.0) in
    sym (rest-ends done)
    ∙ ap (λ (l : List (List ℕ)). with_rest done (all_some (map says l))) (sym c.in_default.ensures.0)
    ∙ i.said
    ∙ sym (cond-true (nat_le (length all) 16) (all_some (map says all)) None (le-leb (length all) 16 few))
