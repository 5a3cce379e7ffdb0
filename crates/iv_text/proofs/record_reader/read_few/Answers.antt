use Rattle.std.proofs.Common.{arith}
use Rattle.iv_text.proofs.DigitLemmas.{AddsUp, adds_up}
use Rattle.iv_text.proofs.record_reader.read_few.Goals as goal

known : (c : goal.After-from_le_bytes-word) → AddsUp c.args.text.now c.args.count c.from_le_bytes-word.result
known c =
    adds_up c.args.text.now c.args.count c.from_le_bytes-word.result c.requires.long c.requires.some c.requires.few (λ k. (c.type_inv.text k).fits) c.requires.digits
    c.from_le_bytes-word.ensures

pub overflow_sub-values : goal.overflow_sub-values
overflow_sub-values c = (known c).no_less

pub overflow_mul-pairs : goal.overflow_mul-pairs
overflow_mul-pairs c = omega (arith, (known c).low)

pub overflow_add-pairs : goal.overflow_add-pairs
overflow_add-pairs c = omega (arith, (known c).low)

pub returns-clause-value : goal.returns-clause-value
returns-clause-value c = (known c).value

pub returns-clause-small : goal.returns-clause-small
returns-clause-small c = (known c).small
