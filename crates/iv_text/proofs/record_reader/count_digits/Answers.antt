use Rattle.std.proofs.Common.{arith}
use Rattle.iv_text.proofs.DigitLemmas.{digits-before}
use Rattle.iv_text.proofs.record_reader.count_digits.Goals as goal

pub returns-then-count-lt10-clause-digits : goal.returns-then-count-lt10-clause-digits
returns-then-count-lt10-clause-digits c = digits-before c.args.text.now c.requires (λ i. (c.type_inv.text i).fits) c.if-others-eq0.false

pub returns-else-count-lt10-clause-digits : goal.returns-else-count-lt10-clause-digits
returns-else-count-lt10-clause-digits c k lt = digits-before c.args.text.now c.requires (λ i. (c.type_inv.text i).fits) c.if-others-eq0.false k (omega (arith, c.if-count-lt10.false))
