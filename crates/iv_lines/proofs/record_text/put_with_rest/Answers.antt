use Rattle.std.proofs.Common.{List, ℕ, ◌∷◌, ap, ◌∙◌}
use Rattle.iv_lines.proofs.JoinedLemmas.{front-is, short-put}
use Rattle.iv_lines.proofs.record_text.put_with_rest.Goals as goal

pub returns : goal.returns
returns g c =
    let begins = front-is c.args.genome.now c.args.feature.now c.seq.result c.start.result c.stop.result c.name_or_empty-name.result.now
    c.name_or_empty-name.ensures c.seq.ensures c.start.ensures c.stop.ensures.value in
    short-put _ _ _ _ _ c.prepend_byte-2.new.self c.args.rest.now _ c.args.tail.now begins
    (c.prepend_byte-2.ensures ∙ ap (λ (l : List ℕ). 9 ∷ l) c.prepend.ensures) c.requires c.put_after_numbers.ensures
