use Rattle.iv_view.proofs.KeptTexts.{merge-shown}
use Rattle.iv_view.specs.RegionText.{kept_text_in}
use Rattle.iv_view.proofs.view.KeptView.print_in.Goals as goal

pub returns-in-Merge-Blocks-clause-text : goal.returns-in-Merge-Blocks-clause-text
returns-in-Merge-Blocks-clause-text g c =
    merge-shown (λ v. kept_text_in c.args.at v c.args.genome.now c.args.track.now.records) _ _ _ c.in-Merge-Blocks.is-0 (rw c.in-Merge-Blocks.is-1 at c.requires.kept) _ _ _ c.print_merge_in.ensures.text
