use Rattle.std.proofs.Common.{◌≡◌, ap, sym, ◌∙◌, length, take, arith}
use Rattle.std.proofs.lemmas.List.{take_all}
use Rattle.std.proofs.lemmas.List.Sums.{position_or_len_is}
use Rattle.std.specs.List.{position_or_len}
use Rattle.iv_fasta.specs.Inside.Fasta.{is_blank}
use Rattle.iv_fasta.proofs.header_lines.before_blank.Goals as goal

pub returns-then-ends_name : goal.returns-then-ends_name
returns-then-ends_name c =
    let text = c.args.text.now in
    ap (λ n. take n text) (sym (position_or_len_is is_blank text c.loop-at.at 0 (omega arith) c.loop-at.invariant (λ _. sym c.ends_name.ensures ∙ c.if-ends_name.true)))

pub returns : goal.returns
returns c =
    let text = c.args.text.now in
    let whole : position_or_len is_blank text ≡ length text =
    position_or_len_is is_blank text (length text) 0 (omega arith) (λ k below. c.loop-at.invariant k (omega arith)) (λ past. absurd (omega (arith, past))) in
    sym (ap (λ n. take n text) whole ∙ take_all (length text) text (omega arith))
