use Rattle.std.proofs.Common.{◌≡◌, ◌+◌, ◌-◌, ◌*◌, ◌∙◌, ◌++◌, ◌∷◌, [], ℕ, Some, true, ap, sym, take, get_or, arith, length-take}
use Rattle.std.proofs.lemmas.List.{take_more}
use Rattle.std.specs.Char.{is_ascii_digit}
use Rattle.std.specs.Str.{all_ascii_digits}
use Rattle.iv_lines.specs.Inside.Number.{decimal_from}
use Rattle.iv_lines.proofs.NumberLemmas.{decimal-more, digits-more, digit-bound, bound-more, number-is}
use Rattle.iv_text.proofs.OnePassLemmas.{parts-whole}
use Rattle.iv_text.proofs.record_reader.split_slowly.Goals as goal

pub loop-count-preserved : goal.loop-count-preserved
loop-count-preserved c =
    let text = c.args.text.now in
    let k = c.loop-count.count in
    let b : ℕ = get_or text k 0 in
    let is : is_ascii_digit b ≡ true = sym c.is_ascii_digit.ensures.value ∙ c.if-is_ascii_digit.true in
    let more : take (k + 1) text ≡ take k text ++ b ∷ [] = take_more text k 0 c.if-count-text.true in
    record {
      digits = ap all_ascii_digits more ∙ digits-more (take k text) b c.loop-count.invariant.digits is;
      value = ap (λ v. v * 10 + (b - 48)) c.loop-count.invariant.value ∙ sym (decimal-more 0 (take k text) b) ∙ sym (ap (decimal_from 0) more);
      bound = bound-more c.loop-count.value b k c.loop-count.invariant.bound (digit-bound b is);
      few = omega arith;
      within = omega arith;
    }

pub returns : goal.returns
returns c =
    let text = c.args.text.now in
    let k = c.loop-count.count in
    (take k text, parts-whole text k, number-is (take k text) (omega (arith, length-take k text)) (omega (arith, length-take k text)) c.loop-count.invariant.digits ∙ ap Some (sym c.loop-count.invariant.value))
