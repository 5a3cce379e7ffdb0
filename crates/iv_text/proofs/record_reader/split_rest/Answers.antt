use Rattle.std.proofs.Common.{arith, refl}
use Rattle.iv_text.proofs.FastLineLemmas.{rest-laid}
use Rattle.iv_text.proofs.record_reader.split_rest.Goals as goal

pub returns-then-width-eq3 : goal.returns-then-width-eq3
returns-then-width-eq3 c = (c.in_ok-end.ensures, λ low. refl, λ wide. absurd (omega (arith, wide, c.if-width-eq3.true)))

pub returns : goal.returns
returns c = (c.in_ok-end.ensures, λ low. absurd (omega (arith, low, c.requires.0, c.if-width-eq3.false)), λ wide. rest-laid c.args.width c.args.text.now c.in_ok-end.end.now c.if-width-eq3.false c.in_ok-end.ensures)
