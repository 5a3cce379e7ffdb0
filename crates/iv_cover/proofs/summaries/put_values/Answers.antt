use Rattle.std.proofs.Common.{◌∙◌, ap, sym}
use Rattle.std.specs.List.{join_with_byte}
use Rattle.iv_bytes.proofs.PutLemmas.{Puts-err}
use Rattle.iv_lines.specs.Bytes.{comma}
use Rattle.iv_cover.specs.Inside.Results.{after_commas}
use Rattle.iv_cover.proofs.DistinctLemmas.{joined-is}
use Rattle.iv_cover.proofs.FirstLemmas.{Underway-first, FailsIn-first, Underway-step, Underway-failed}
use Rattle.iv_cover.proofs.summaries.put_values.Goals as goal

pub returns-in_err-put_all : goal.returns-in_err-put_all
returns-in_err-put_all g c =
    let left = g.V.Values.left c.args.name.now c.args.column in
    let whole = ap (join_with_byte comma) (sym (c.again-left.ensures c.args.name.now c.args.column) ∙ c.in-Some.ensures) ∙ joined-is c.in-Some.first (left c.next_value.new.self) in
    Puts-err _ _ c.from_residual.result _ c.from_residual.ensures.0 (FailsIn-first _ _ _ _ _ whole (rw c.as_slice.ensures at c.in_err-put_all.ensures))

pub loop-value-init : goal.loop-value-init
loop-value-init g c =
    let left = g.V.Values.left c.args.name.now c.args.column in
    let whole = ap (join_with_byte comma) (sym (c.again-left.ensures c.args.name.now c.args.column) ∙ c.in-Some.ensures) ∙ joined-is c.in-Some.first (left c.next_value.new.self) in
    Underway-first _ _ _ _ _ whole (rw c.as_slice.ensures at c.in_ok-put_all.ensures)

pub returns-in_err-put_next : goal.returns-in_err-put_next
returns-in_err-put_next g c =
    Puts-err _ _ c.from_residual-in_err-put_next.result _ c.from_residual-in_err-put_next.ensures.0
    (Underway-failed _ _ _ _ _ _ _ (ap after_commas c.in-Some-next_value.ensures) c.loop-value.invariant (rw c.as_slice-in-Some-next_value.ensures at c.in_err-put_next.ensures))

pub loop-value-preserved : goal.loop-value-preserved
loop-value-preserved g c =
    Underway-step _ _ _ _ _ _ _ (ap after_commas c.in-Some-next_value.ensures) c.loop-value.invariant (rw c.as_slice-in-Some-next_value.ensures at c.in_ok-put_next.ensures)
