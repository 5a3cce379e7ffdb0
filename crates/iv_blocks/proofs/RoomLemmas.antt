-- Room for the values of records.
use Rattle.std.proofs.Common.{ℕ, ◌≤◌, ◌≡◌, List, arith}
use Rattle.std.proofs.lemmas.List.Elements.{All-weaker}
use Rattle.iv_cover.specs.declared.column.ColumnSummary.{ColumnSummary}
use Rattle.iv_cover.specs.declared.op.Op.TheVariants.{Distinct}
use Rattle.iv_cover.specs.Results.{HasRoom}

-- there is room for fewer in more
pub room-more : (old new many count : ℕ) (summaries : List ColumnSummary) → old ≤ new → count ≤ many → HasRoom old many summaries → HasRoom new count summaries
room-more old new many count summaries more fewer room =
    All-weaker (λ (s : ColumnSummary). s.op ≡ Distinct → many ≤ old) (λ (s : ColumnSummary). s.op ≡ Distinct → count ≤ new) (λ s at is. omega (arith, at is)) summaries room
