use Rattle.std.proofs.Common.{arith}
use Rattle.iv_text.proofs.DigitLemmas.{begins, number-more}
use Rattle.iv_text.proofs.record_reader.split_number.Goals as goal

pub returns-then-count-le8 : goal.returns-then-count-le8
returns-then-count-le8 c =
    begins c.args.text.now c.count_digits-count.result c.read_few.result (omega arith) (omega arith) (omega arith) c.count_digits-count.ensures.digits c.read_few.ensures.value

pub returns-then-count-eq9 : goal.returns-then-count-eq9
returns-then-count-eq9 c =
    let text = c.args.text.now in
    begins text 9 _ (omega arith) (omega arith) (omega arith) (λ k lt. c.count_digits-count.ensures.digits k (omega arith))
    (number-more text 8 c.read_few-eight.result (omega arith) c.read_few-eight.ensures.value)

pub returns : goal.returns
returns c =
    let text = c.args.text.now in
    let ten = c.count_digits-count.ensures.few in
    begins text 10 _ (omega arith) (omega arith) (omega arith) (λ k lt. c.count_digits-count.ensures.digits k (omega arith))
    (number-more text 9 _ (omega arith) (number-more text 8 c.read_few-eight.result (omega arith) c.read_few-eight.ensures.value))
