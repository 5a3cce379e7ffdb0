use Rattle.std.proofs.Common.{◌≡◌, ◌+◌, ◌++◌, List, ℕ, drop, get_or, arith}
use Rattle.std.specs.List.{flat_map}
use Rattle.std.specs.Prelude.{codes}
use Rattle.iv_bytes.proofs.PutLemmas.{Underway-begin, Underway-more, Underway-fails, Puts-err, flat_map-drop}
use Rattle.iv_cover.specs.Summaries.{summary_of}
use Rattle.iv_cover.specs.declared.column.Column.TheVariants.{Sequence}
use Rattle.iv_cover.specs.declared.column.ColumnSummary.{ColumnSummary}
use Rattle.iv_cover.specs.declared.op.Op.TheVariants.{Count}
use Rattle.iv_cover.proofs.FirstLemmas.{Underway-step, Underway-failed}
use Rattle.iv_cover.proofs.summaries.put_results.Goals as goal

pub returns-in_err-put_all-clause-text : goal.returns-in_err-put_all-clause-text
returns-in_err-put_all-clause-text g c =
    let f : ColumnSummary → List ℕ = λ s. codes "\t" ++ summary_of s.op (g.V.Values.left c.args.name.now s.column c.args.values.now) in
    let unused : ColumnSummary = record { column = Sequence; op = Count } in
    let i = c.loop-asked.asked-index in
    let s : ColumnSummary = get_or c.args.summaries.now i unused in
    let next : flat_map f (drop i c.args.summaries.now) ≡ codes "\t" ++ (summary_of s.op (g.V.Values.left c.args.name.now s.column c.args.values.now) ++ flat_map f (drop (i + 1) c.args.summaries.now))
    = flat_map-drop f c.args.summaries.now i unused c.loop-asked-test.true in
    Puts-err _ _ c.from_residual.result _ c.from_residual.ensures.0
    (Underway-failed _ _ _ _ _ _ _ next c.loop-asked.invariant.put c.in_err-put_all.ensures)

pub returns-in_err-put_result-clause-text : goal.returns-in_err-put_result-clause-text
returns-in_err-put_result-clause-text g c =
    let f : ColumnSummary → List ℕ = λ s. codes "\t" ++ summary_of s.op (g.V.Values.left c.args.name.now s.column c.args.values.now) in
    Puts-err _ _ c.from_residual-in_err-put_result.result _ c.from_residual-in_err-put_result.ensures.0
    (Underway-fails _ _ _ _ _ _
    (Underway-step _ _ _ _ _ _ _ (flat_map-drop f c.args.summaries.now c.loop-asked.asked-index _ c.loop-asked-test.true) c.loop-asked.invariant.put c.in_ok-put_all.ensures)
    c.in_err-put_result.ensures.text)

pub loop-asked-init : goal.loop-asked-init
loop-asked-init g c = record { put = Underway-begin _ _; grown = omega arith }

pub loop-asked-preserved : goal.loop-asked-preserved
loop-asked-preserved g c =
    let f : ColumnSummary → List ℕ = λ s. codes "\t" ++ summary_of s.op (g.V.Values.left c.args.name.now s.column c.args.values.now) in
    record {
      put = Underway-more _ _ _ _ _ _
          (Underway-step _ _ _ _ _ _ _ (flat_map-drop f c.args.summaries.now c.loop-asked.asked-index _ c.loop-asked-test.true) c.loop-asked.invariant.put c.in_ok-put_all.ensures)
          c.in_ok-put_result.ensures.text;
      grown = omega (arith, c.loop-asked.invariant.grown, c.in_ok-put_result.ensures.room);
    }
