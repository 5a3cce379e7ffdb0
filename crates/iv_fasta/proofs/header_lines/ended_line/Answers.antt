use Rattle.std.proofs.Common.{◌+◌, ◌∷◌, ◌++◌, ℕ, List, ap, sym, ◌∙◌, drop, append-nil, get_or}
use Rattle.std.proofs.lemmas.Bool.{eqb-true}
use Rattle.iv_lines.specs.Lines.{lines}
use Rattle.iv_lines.proofs.PieceLemmas.{fed-at}
use Rattle.iv_fasta.proofs.SaidLemmas.{line-in-front}
use Rattle.iv_fasta.proofs.header_lines.ended_line.Goals as goal

pub returns-then-is_last-clause-lines : goal.returns-then-is_last-clause-lines
returns-then-is_last-clause-lines c = λ more last.
    let text = c.args.text.now in
    let none = last c.if-is_last.true in
    ap (λ (l : List ℕ). lines (text ++ l)) none ∙ ap lines (append-nil text)
    ∙ c.split_line.ensures.lines
    ∙ ap (λ (l : List ℕ). c.split_line.result.0.now ∷ lines l) (sym (append-nil (drop c.split_line.result.1 text)) ∙ ap (λ (l : List ℕ). drop c.split_line.result.1 text ++ l) (sym none))

pub returns-in-Some-clause-lines : goal.returns-in-Some-clause-lines
returns-in-Some-clause-lines c = λ more last.
    let text = c.args.text.now in
    line-in-front text more c.split_line-in-Some.result.0.now (c.in-Some.feed + 1) c.split_line-in-Some.result.1 (fed-at text c.in-Some.feed 0 c.in-Some.ensures.0.high (eqb-true (get_or text c.in-Some.feed 0) 10 c.in-Some.ensures.1))
    c.split_line-in-Some.ensures.lines c.split_line-in-Some.ensures.within.1
