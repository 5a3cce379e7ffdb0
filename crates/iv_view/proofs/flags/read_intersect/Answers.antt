use Rattle.std.proofs.Common.{◌∙◌, ℕ, List, map, sym, arith}
use Rattle.std.proofs.lemmas.List.{length-map}
use Rattle.std.specs.Borrow.{Bor}
use Rattle.std.specs.Prelude.{codes}
use Rattle.iv_view.specs.Flags.{intersect_said}
use Rattle.iv_view.proofs.FlagLemmas.{three-words, flag-first-of}
use Rattle.iv_view.proofs.RowLemmas.{intersect_others}
use Rattle.iv_view.proofs.flags.read_intersect.Goals as goal

pub returns-in-len2 : goal.returns-in-len2
returns-in-len2 c =
    c.intersect_rows_of-in-len2.ensures
    ∙ sym (flag-first-of (codes "-wa") intersect_said intersect_others c.args.arguments.now _ _ c.in-len2.len_at_least c.in-len2.len_below (sym c.is_wa-then-arguments-lt3.ensures ∙ c.if-is_wa-2.true))

pub returns-in_default-2 : goal.returns-in_default-2
returns-in_default-2 c =
    let arguments = c.args.arguments.now in
    sym (three-words (codes "-wa") intersect_said intersect_others (map (λ argument. argument.now) arguments) (omega (arith, length-map arguments (λ (argument : Bor (List ℕ)). argument.now), c.in_default.len_at_least)))
