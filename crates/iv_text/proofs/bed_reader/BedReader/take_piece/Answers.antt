use Rattle.std.proofs.Common.{◌≡◌, ◌∙◌, ◌++◌, ℕ, List, [], sym, ap, inl, inr, take-append-drop}
use Rattle.iv_lines.specs.Lines.{lines}
use Rattle.iv_text.specs.BedReading.{Reading, after}
use Rattle.iv_lines.proofs.PieceLemmas.{handed-on, rest-whole}
use Rattle.iv_text.proofs.BedReadingLemmas.{piece-lines}
use Rattle.iv_text.proofs.bed_reader.BedReader.take_piece.Goals as goal

pub returns-in_err-take_lines-clause-err : goal.returns-in_err-take_lines-clause-err
returns-in_err-take_lines-clause-err g c =
    let genome = c.args.genome.now in
    let limit = c.args.limit in
    let piece = c.args.piece.now in
    let all = c.split_at.result.0.now in
    let back = c.split_at.result.1.now in
    let taken = c.in_ok-taken.taken in
    let is : piece ≡ all ++ back = sym ((λ i. c.split_at.ensures.front i ++ c.split_at.ensures.back i) ∙ take-append-drop c.last_end-end.result piece) in
    handed-on c.from_residual-in_err-take_lines.result _ _ c.from_residual-in_err-take_lines.ensures.1
    (elim c.in_err-take_lines.ensures.err [
      | inl memory ↦ inl memory
      | inr refused ↦ inr (λ more.
          piece-lines c.args.columns genome limit c.args.self.now c.end_line.new.self _ piece all _ back taken is c.in_ok-taken.ensures.ok c.in_ok-taken.ensures.tail c.in_ok-taken.ensures.ended c.self-2.view_is (rest-whole all taken) more
          ∙ refused (lines (back ++ more)))
    ])

pub returns-clause-ok : goal.returns-clause-ok
returns-clause-ok g c = λ more.
    let genome = c.args.genome.now in
    let limit = c.args.limit in
    let piece = c.args.piece.now in
    let all = c.split_at.result.0.now in
    let back = c.split_at.result.1.now in
    let taken = c.in_ok-taken.taken in
    let is : piece ≡ all ++ back = sym ((λ i. c.split_at.ensures.front i ++ c.split_at.ensures.back i) ∙ take-append-drop c.last_end-end.result piece) in
    let none : c.self-2.inside.tail.items ≡ [] = ap (λ (r : Reading). r.tail) c.self-2.view_is ∙ c.in_ok-taken.ensures.tail in
    let tail : c.keep-2.new.tail.items ≡ back = c.in_ok-keep-2.ensures.ok ∙ ap (λ (t : List ℕ). t ++ back) none in
    piece-lines c.args.columns genome limit c.args.self.now c.end_line.new.self _ piece all _ back taken is c.in_ok-taken.ensures.ok c.in_ok-taken.ensures.tail c.in_ok-taken.ensures.ended c.self-2.view_is (rest-whole all taken) more
    ∙ c.in_ok-take_lines.ensures.ok (lines (back ++ more))
    ∙ sym (ap (λ (t : List ℕ). after c.args.columns genome limit c.take_lines.new.self (lines (t ++ more))) tail)
