use Rattle.std.proofs.Common.{◌≡◌, false, get_or, sym, ◌∙◌, arith}
use Rattle.iv_text.specs.Inside.OnePass.{ends_cell}
use Rattle.iv_text.proofs.CellLemmas.{cell-more}
use Rattle.iv_text.proofs.record_reader.count_slowly.Goals as goal

pub loop-end-preserved : goal.loop-end-preserved
loop-end-preserved c =
    let text = c.args.text.now in
    let k = c.loop-end.end in
    let is : ends_cell (get_or text k 0) ≡ false = sym c.is_end.ensures ∙ c.if-not-is_end.true in
    record {
      plain = cell-more text k c.loop-end-test.true c.loop-end.invariant.plain is;
      within = omega arith;
    }
