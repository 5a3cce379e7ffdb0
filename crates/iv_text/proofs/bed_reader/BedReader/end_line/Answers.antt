use Rattle.std.proofs.Common.{◌≡◌, ◌∙◌, ◌++◌, ℕ, List, [], sym, ap, inl, inr, take, drop, rules}
use Rattle.iv_lines.specs.Lines.{lines}
use Rattle.iv_text.specs.BedReading.{after}
use Rattle.iv_text.proofs.BedReadingLemmas.{carried-lines}
use Rattle.iv_lines.proofs.PieceLemmas.{ended-rest, handed-on}
use Rattle.iv_text.proofs.bed_reader.BedReader.end_line.Goals as goal

pub returns-in_err-take_lines-clause-err : goal.returns-in_err-take_lines-clause-err
returns-in_err-take_lines-clause-err g c =
    let genome = c.args.genome.now in
    let limit = c.args.limit in
    let all = c.args.lines.now in
    let size = c.first_end-size.result in
    let line_is : c.self.inside.tail.items ++ take size all ≡ c.as_slice.result.now = sym (c.as_slice.ensures.value ∙ c.in_ok-keep.ensures.ok) in
    handed-on c.from_residual-in_err-take_lines.result _ _ c.from_residual-in_err-take_lines.ensures.1
    (elim c.in_err-take_lines.ensures.err [
      | inl memory ↦ inl memory
      | inr refused ↦ inr (λ more.
          carried-lines c.args.columns genome limit c.args.self.now _ all c.as_slice.result.now size c.self.view_is line_is c.first_end-size.ensures.ended more
          ∙ refused (lines (drop size all ++ more)))
    ])

pub returns-clause-ok : goal.returns-clause-ok
returns-clause-ok g c = λ more.
    let genome = c.args.genome.now in
    let limit = c.args.limit in
    let all = c.args.lines.now in
    let size = c.first_end-size.result in
    let line_is : c.self.inside.tail.items ++ take size all ≡ c.as_slice.result.now = sym (c.as_slice.ensures.value ∙ c.in_ok-keep.ensures.ok) in
    let cleared : c.clear.new.self.items ≡ [] = search rules in
    carried-lines c.args.columns genome limit c.args.self.now _ all c.as_slice.result.now size c.self.view_is line_is c.first_end-size.ensures.ended more
    ∙ c.in_ok-take_lines.ensures.ok (lines (drop size all ++ more))
    ∙ sym (ap (λ (t : List ℕ). after c.args.columns genome limit c.take_lines.new.self (lines (t ++ (drop size all ++ more)))) cleared)

pub returns-clause-ended : goal.returns-clause-ended
returns-clause-ended g c = ended-rest c.first_end-size.result c.args.lines.now c.requires.ended
