use Rattle.std.proofs.Common.{◌∷◌, [], ℕ, get_or, ap, sym, ◌∙◌}
use Rattle.iv_text.proofs.FastLineLemmas.{cell-strand, first-byte}
use Rattle.iv_text.proofs.record_reader.after_strand.Goals as goal

pub returns-in-len1-up : goal.returns-in-len1-up
returns-in-len1-up c =
    let after = c.in_ok-strand.strand.now in
    let b : ℕ = get_or after 0 0 in
    let some = c.in-len1-up.len_at_least in
    let is = sym c.is_strand.ensures ∙ c.if-is_strand.true in
    (b ∷ [], (c.in_ok-strand.ensures ∙ ap (λ t. 9 ∷ t) (first-byte after some), cell-strand b is, is))
