use Rattle.std.proofs.Common.{◌≡◌, ◌∙◌, ℕ, ◌++◌, ◌∷◌, [], List, ap, ap₂}
use Rattle.iv_lines.specs.Genome.{sequence_name}
use Rattle.iv_cover.specs.Columns.{results_over}
use Rattle.iv_blocks.specs.Groups.{listed}
use Rattle.iv_blocks.specs.KeptBlocks.{Key, Kept}
use Rattle.iv_blocks.proofs.entries.push_entry.Goals as goal

pub returns : goal.returns
returns g c =
    let a = c.args in
    let b = c.args.block in
    let texts : c.as_slice-2.result.now ≡ results_over (sequence_name a.genome.now b.seq) (listed a.options.now.summaries) a.members.now
    = c.as_slice-2.ensures.value ∙ (rw (c.name_or_empty-name.ensures, c.as_slice.ensures) at c.in_ok-results.ensures) in
    let kept : c.in_ok-kept.kept ≡ record { stop = b.stop; results = results_over (sequence_name a.genome.now b.seq) (listed a.options.now.summaries) a.members.now }
    = c.in_ok-kept.ensures ∙ ap (λ (t : List ℕ). record { stop = b.stop; results = t }) texts in
    c.in_ok-push.ensures.ok ∙ ap₂ (λ (q : Key) (k : Kept). a.built.now ++ (q, k) ∷ []) c.key_of.ensures kept
