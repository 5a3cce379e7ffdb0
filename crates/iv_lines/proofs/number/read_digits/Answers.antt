use Rattle.std.proofs.Common.{◌∙◌, ◌+◌, ◌-◌, ◌*◌, ◌^◌, ◌<◌, ◌≤◌, ℕ, arith, get_or, sym}
use Rattle.iv_lines.proofs.NumberLemmas.{digit-bound, bound-more, powers-grow}
use Rattle.iv_lines.proofs.number.read_digits.Goals as goal

-- one more digit keeps a number of at most 19 digits within 64 bits
small : (v b k most : ℕ) → v < 10 ^ k → b ≤ 57 → k + 1 ≤ most → most ≤ 19 → v * 10 + (b - 48) < 2 ^ 64
small v b k most low digit up few =
    let more : v * 10 + (b - 48) < 10 ^ (k + 1) = bound-more v b k low digit in
    let grows : 10 ^ (k + 1) ≤ 10 ^ 19 = powers-grow (k + 1) 19 (omega arith) in
    omega arith

pub overflow_mul-value : goal.overflow_mul-value
overflow_mul-value c =
    omega (arith, small c.loop-b.value 48 c.loop-b.b-index c.args.most c.loop-b.invariant.bound (omega arith) (omega arith) c.requires)

pub overflow_add-value : goal.overflow_add-value
overflow_add-value c =
    let b : ℕ = get_or c.args.bytes.now c.loop-b.b-index 0 in
    let digit : b ≤ 57 = digit-bound b (sym c.is_ascii_digit.ensures.value ∙ c.if-not-is_ascii_digit.false) in
    omega (arith, small c.loop-b.value b c.loop-b.b-index c.args.most c.loop-b.invariant.bound digit (omega arith) c.requires)

pub returns-clause-small : goal.returns-clause-small
returns-clause-small c =
    let grows : 10 ^ c.loop-b.b-index ≤ 10 ^ c.args.most = powers-grow c.loop-b.b-index c.args.most (omega arith) in
    omega arith
