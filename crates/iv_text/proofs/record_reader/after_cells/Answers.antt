use Rattle.std.proofs.Common.{◌≡◌, arith}
use Rattle.iv_text.proofs.FastLineLemmas.{four-columns, five-columns, six-columns-if, three-columns}
use Rattle.iv_text.proofs.record_reader.after_cells.Goals as goal

pub returns-then-width-eq3 : goal.returns-then-width-eq3
returns-then-width-eq3 c = three-columns c.args.width c.args.text.now c.if-width-eq3.true

pub returns-then-width-eq4 : goal.returns-then-width-eq4
returns-then-width-eq4 c = four-columns c.args.width c.args.text.now _ c.if-width-eq4.true c.in_ok-after_name.ensures

pub returns-then-width-eq5 : goal.returns-then-width-eq5
returns-then-width-eq5 c = five-columns c.args.width c.args.text.now _ _ c.if-width-eq5.true c.in_ok-after_name.ensures c.in_ok-after_score.ensures

pub returns : goal.returns
returns c =
    let six : c.args.width ≡ 6 = omega (arith, c.requires.0, c.requires.1, c.if-width-eq3.false, c.if-width-eq4.false, c.if-width-eq5.false) in
    six-columns-if c.args.width c.args.text.now _ _ c.after_strand.result six c.in_ok-after_name.ensures c.in_ok-after_score.ensures c.after_strand.ensures
