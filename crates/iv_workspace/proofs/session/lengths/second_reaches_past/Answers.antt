use Rattle.std.proofs.Common.{◌∙◌, List}
use Rattle.iv_lines.specs.RecordValue.{RecordValue}
use Rattle.iv_workspace.proofs.ResizeLemmas.{hit-past}
use Rattle.iv_workspace.proofs.session.lengths.second_reaches_past.Goals as goal

pub returns : goal.returns
returns g c =
    c.is_some.ensures
    ∙ hit-past (λ (h : List RecordValue). h) c.args.seq c.args.length c.args.end c.args.second.now.records c.hits.result _ c.next.result c.requires.some c.requires.within c.hits.ensures.hits c.next.ensures.steps
