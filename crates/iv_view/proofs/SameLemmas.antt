-- Values that are equal by `==` are the same.
use Rattle.std.proofs.Common.{◌≡◌, Bool, true, false, List, [], ◌∷◌, refl, sym, ap, rules, eqb-true}
use Rattle.std.proofs.Math.Bool.{beq}
use Rattle.std.proofs.lemmas.Bool.{and_parts}
use Rattle.iv_cover.specs.declared.column.Column.{Column}
use Rattle.iv_cover.specs.declared.op.Op.{Op}
use Rattle.iv_cover.specs.declared.column.ColumnSummary.{ColumnSummary}
use Rattle.iv_blocks.specs.declared.options.BlockOptions.{BlockOptions}
use Rattle.iv_blocks.specs.declared.options.Summaries.{Summaries}
use Rattle.iv_view.specs.declared.kept_state.StateKey.{StateKey}
use Rattle.iv_view.specs.declared.kept_state.StateKey.TheVariants as keep
use Rattle.iv_cover.specs.contracts.column.ColumnPartialEq.TheImpl as column
use Rattle.iv_cover.specs.contracts.column.ColumnSummaryPartialEq.TheImpl as summary
use Rattle.iv_cover.specs.contracts.op.OpPartialEq.TheImpl as op
use Rattle.iv_blocks.specs.contracts.options.SummariesPartialEq.TheImpl as summaries
use Rattle.iv_blocks.specs.contracts.options.BlockOptionsPartialEq.TheImpl as options
use Rattle.iv_view.specs.contracts.kept_state.StateKeyPartialEq.TheImpl as state_key
use lib.Pointwise.{pointwise}

column-same : (a b : Column) → column.eq-value.it a b ≡ true → a ≡ b
column-same a b e = search rules

op-same : (a b : Op) → op.eq-value.it a b ≡ true → a ≡ b
op-same a b e = search rules

summary-same : (a b : ColumnSummary) → summary.eq-value.it a b ≡ true → a ≡ b
summary-same a b e =
    let parts = and_parts _ _ e in
    let same_column = column-same a.column b.column parts.0 in
    let same_op = op-same a.op b.op parts.1 in
    λ i. record { column = same_column i; op = same_op i }

list-same : {X : Type 0} (test : X → X → Bool) → ((x y : X) → test x y ≡ true → x ≡ y) → (xs ys : List X) → pointwise test xs ys ≡ true → xs ≡ ys
list-same test same [] [] e = refl
list-same test same (x ∷ xs) (y ∷ ys) e =
    let parts = and_parts (test x y) (pointwise test xs ys) e in
    let first = same x y parts.0 in
    let others = list-same test same xs ys parts.1 in
    λ i. first i ∷ others i
list-same test same xs ys e = search rules

summaries-same : (a b : Summaries) → summaries.eq-value.it a b ≡ true → a ≡ b
summaries-same a b e =
    let parts = and_parts _ _ e in
    let same_summaries = list-same summary.eq-value.it summary-same a.summaries b.summaries parts.0 in
    let same_count = eqb-true a.count b.count parts.1 in
    λ i. record { summaries = same_summaries i; count = same_count i }

bool-same : (a b : Bool) → beq a b ≡ true → a ≡ b
bool-same true true e = refl
bool-same false false e = refl
bool-same true false e = sym e
bool-same false true e = e

options-same : (a b : BlockOptions) → options.eq-value.it a b ≡ true → a ≡ b
options-same a b e =
    let parts = and_parts _ _ e in
    let more = and_parts _ _ parts.1 in
    let same_distance = eqb-true a.distance b.distance parts.0 in
    let same_stranded = bool-same a.stranded b.stranded more.0 in
    let same_summaries = summaries-same a.summaries b.summaries more.1 in
    λ i. record { distance = same_distance i; stranded = same_stranded i; summaries = same_summaries i }

pub state_key-same : (a b : StateKey) → state_key.eq-value.it a b ≡ true → a ≡ b
state_key-same (keep.Blocks a) (keep.Blocks b) e = ap keep.Blocks (options-same a b e)
state_key-same keep.Depth keep.Depth e = refl
state_key-same a b e = search rules
