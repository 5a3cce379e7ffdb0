use Rattle.std.proofs.Common.{◌+◌, ◌∷◌, drop, ◌∙◌, ap, sym}
use Rattle.iv_lines.specs.Lines.{lines}
use Rattle.iv_lines.proofs.SplitLemmas.{line-fed, line-ended}
use Rattle.iv_lines.proofs.lines.split_line.Goals as goal

pub returns-in-Some-clause-lines : goal.returns-in-Some-clause-lines
returns-in-Some-clause-lines c =
    let text = c.args.text.now in
    line-fed text c.in-Some.feed c.in-Some.ensures.0 c.in-Some.ensures.1
    ∙ ap (λ line. line ∷ lines (drop (c.in-Some.feed + 1) text)) (sym c.without_return.ensures.value)

pub returns-in-None-clause-lines : goal.returns-in-None-clause-lines
returns-in-None-clause-lines c = line-ended c.args.text.now c.requires c.in-None.ensures
