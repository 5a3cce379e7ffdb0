use Rattle.std.proofs.Common.{◌≡◌, ◌∙◌, true, Ok, sym, ap}
use Rattle.iv_view.specs.Arguments.{read_arguments}
use Rattle.iv_view.specs.declared.view.View.TheVariants as view
use Rattle.iv_run.proofs.ColumnsLemmas.{asks}
use Rattle.iv_run.proofs.run.columns_for.Goals as goal

pub returns-then-is_of_intervals : goal.returns-then-is_of_intervals
returns-then-is_of_intervals g c =
    let asked : read_arguments 6 true true c.args.plan.now.view ≡ Ok (view.Kept c.in-Ok-Kept.view) = sym c.view.ensures ∙ c.in-Ok-Kept.is ∙ ap Ok c.in-Ok-Kept.field-0-is in
    asks c.args.plan.now.view c.in-Ok-Kept.view asked (c.is_of_intervals.ensures c.if-is_of_intervals.true)
