use Rattle.std.proofs.Common.{rules, tests}
use Rattle.std.specs.Prelude.{nat_le}
use Rattle.std.proofs.lemmas.Iterator.{YieldsList-from_slice}
use Rattle.std.proofs.lemmas.Iterator.Search.{all_from_yields_List}
use Rattle.iv_cover.specs.declared.column.ColumnSummary.{ColumnSummary}
use Rattle.iv_view.specs.NarrowedViews.{number_of}
use Rattle.iv_view.proofs.merge.has_columns.Goals as goal

pub returns : goal.returns
returns c =
    all_from_yields_List (λ (asked : ColumnSummary). nat_le (number_of asked.column) c.args.width) _ _ _ c.all.ensures.ran (YieldsList-from_slice c.args.summaries.now cc)
    (λ x b q k. search (rules, tests))
