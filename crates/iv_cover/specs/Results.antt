-- The results of several summaries, and the room that they need.
use Rattle.std.specs.Prelude.{◌≡◌, ℕ, ◌≤◌, ◌++◌, List, All, codes}
use Rattle.std.specs.List.{flat_map}
use Rattle.iv_cover.specs.Summaries.{summary_of}
use Rattle.iv_cover.specs.declared.column.Column.{Column}
use Rattle.iv_cover.specs.declared.column.ColumnSummary.{ColumnSummary}
use Rattle.iv_cover.specs.declared.op.Op.TheVariants.{Distinct}

-- all results over columns of these values, each with a TAB in front of it
abbrev pub results_of : (Column → List (List ℕ)) → List ColumnSummary → List ℕ
results_of values summaries = flat_map (λ s. codes "\t" ++ summary_of s.op (values s.column)) summaries

-- if the different ones of so many values are asked for, there is room for so many
abbrev pub HasRoom : ℕ → ℕ → List ColumnSummary → Type 0
HasRoom room count summaries = All (λ s. s.op ≡ Distinct → count ≤ room) summaries
