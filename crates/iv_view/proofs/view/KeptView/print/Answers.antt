use Rattle.iv_view.proofs.KeptTexts.{merge-shown}
use Rattle.iv_view.specs.Views.{kept_text}
use Rattle.iv_view.proofs.view.KeptView.print.Goals as goal

pub returns-in-Merge-Blocks-clause-text : goal.returns-in-Merge-Blocks-clause-text
returns-in-Merge-Blocks-clause-text g c =
    merge-shown (λ v. kept_text v c.args.genome.now c.args.track.now.records) _ _ _ c.in-Merge-Blocks.is-0 (rw c.in-Merge-Blocks.is-1 at c.requires.kept) _ _ _ c.print_merge.ensures.text
