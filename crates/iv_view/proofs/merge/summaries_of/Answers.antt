use Rattle.std.proofs.Common.{◌∙◌, ◌<◌, get_or, lt-ltb, refl, sym, ap, arith}
use Rattle.iv_blocks.specs.declared.options.Summaries.{Summaries}
use Rattle.iv_cover.specs.declared.op.Op.TheVariants.{Count}
use Rattle.std.specs.Option.{option_map}
use Rattle.iv_cover.specs.declared.column.Column.{Column}
use Rattle.iv_blocks.specs.Groups.{filled}
use Rattle.iv_view.proofs.NarrowingLemmas.{six-columns}
use Rattle.iv_view.proofs.SummaryLemmas.{asked-fault, asked-more}
use Rattle.iv_view.proofs.merge.summaries_of.Goals as goal

pub returns-in_err-column : goal.returns-in_err-column
returns-in_err-column c =
    let a = c.args in
    let none = asked-fault 6 a.columns.now a.ops.now c.loop-place.place c.loop-place.summaries c.loop-place.invariant c.loop-place-test.true c.requires.paired (get_or a.columns.now c.loop-place.place 0) (get_or a.ops.now c.loop-place.place Count) refl refl
    (ap (option_map (λ (column : Column). record { column = column; op = get_or a.ops.now c.loop-place.place Count })) (six-columns (get_or a.columns.now c.loop-place.place 0) ∙ sym c.numbered.ensures ∙ c.in_err-column.was)) in
    c.from_residual.ensures ∙ sym (ap (option_map filled) none)

pub loop-place-preserved : goal.loop-place-preserved
loop-place-preserved c =
    let a = c.args in
    let i = c.loop-place.invariant in
    let room : c.loop-place.summaries.count < 16 = omega (arith, ap (λ (n : Summaries). n.count) i.filled_with, i.count, c.loop-place-test.true, c.requires.few) in
    asked-more 6 a.columns.now a.ops.now c.loop-place.place c.loop-place.summaries c.loop-place.invariant c.loop-place-test.true c.requires.paired (get_or a.columns.now c.loop-place.place 0) (get_or a.ops.now c.loop-place.place Count) refl refl _ c.push.new.self
    (ap (option_map (λ (column : Column). record { column = column; op = get_or a.ops.now c.loop-place.place Count })) (six-columns (get_or a.columns.now c.loop-place.place 0) ∙ sym c.numbered.ensures ∙ c.in_ok-column.was)) (omega (arith, c.requires.few)) (c.push.ensures.pushed (c.push.ensures.room ∙ lt-ltb c.loop-place.summaries.count 16 room))
