use Rattle.std.proofs.Common.{◌∷◌, take, ap, ◌∙◌, arith, length-take}
use Rattle.iv_text.proofs.OnePassLemmas.{parts-whole}
use Rattle.iv_text.proofs.FastLineLemmas.{cell-text}
use Rattle.iv_text.proofs.record_reader.after_text.Goals as goal

pub returns : goal.returns
returns c =
    let text = c.in_ok-cell.cell.now in
    let end = c.count_cell-end.result in
    let plain = c.count_cell-end.ensures.cell in
    (take end text, (c.in_ok-cell.ensures ∙ ap (λ t. 9 ∷ t) (parts-whole text end), plain, cell-text (take end text) (omega (arith, length-take end text)) plain))
