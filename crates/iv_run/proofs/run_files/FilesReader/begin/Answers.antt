use Rattle.std.proofs.Common.{List, ℕ, subst}
use Rattle.iv_run.specs.RunFiles.{HasBegun}
use Rattle.iv_run.proofs.run_files.FilesReader.begin.Goals as goal

pub returns-clause-ok : goal.returns-clause-ok
returns-clause-ok g c =
    let sizes = c.in_ok-sizes.sizes.items in
    let width = c.args.plan.now.width in
    let begun = subst (λ (l : List ℕ). HasBegun width c.limit.result c.args.columns l c.of_sizes.result) c.as_slice.ensures.value c.of_sizes.ensures in
    (sizes, c.in_ok-sizes.ensures.ok, subst (λ (n : ℕ). HasBegun width n c.args.columns sizes c.of_sizes.result) c.limit.ensures.value begun)
