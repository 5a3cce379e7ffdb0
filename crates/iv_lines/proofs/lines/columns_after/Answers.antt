use Rattle.std.proofs.Common.{◌∙◌, ap, sym, ◌∷◌, ◌++◌, List, ℕ, arith}
use Rattle.std.proofs.lemmas.Bool.Decides.{nat_tests}
use Rattle.iv_lines.specs.Fields.{columns}
use Rattle.iv_lines.proofs.FieldLemmas.{empty-is, column-last, column-more}
use Rattle.iv_lines.proofs.lines.columns_after.Goals as goal

pub returns-then-is_empty : goal.returns-then-is_empty
returns-then-is_empty c = λ column plain. ap (λ r. columns (column ++ r)) (empty-is c.args.rest.now (grind (arith, nat_tests))) ∙ column-last column plain

pub returns : goal.returns
returns c = λ column plain.
    ap (λ r. columns (column ++ r)) c.in_ok-others.ensures ∙ column-more column c.in_ok-others.others.now plain
    ∙ ap (λ (cs : List (List ℕ)). column ∷ cs) (sym c.of.ensures)
