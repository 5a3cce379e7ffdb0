use Rattle.std.proofs.Common.{map, sym, ◌∙◌}
use Rattle.std.proofs.lemmas.Result.{err_from_is_err_and}
use Rattle.iv_view.proofs.NarrowingLemmas.{view-narrowed, fault-narrowed}
use Rattle.iv_view.proofs.view.View.read.Goals as goal

pub returns-in_err-view : goal.returns-in_err-view
returns-in_err-view g c =
    let p = err_from_is_err_and c.from_residual.result c.from_residual.ensures.1 in
    rw (p.1, p.2) (sym (fault-narrowed c.args.width c.args.has_second c.args.has_fasta (map (λ argument. argument.now) c.args.arguments.now) _ (sym c.asked.ensures ∙ c.in_err-view.was)))

pub returns : goal.returns
returns g c =
    c.narrowed.ensures ∙ view-narrowed c.args.width c.args.has_second c.args.has_fasta (map (λ argument. argument.now) c.args.arguments.now) c.in_ok-view.view (sym c.asked.ensures ∙ c.in_ok-view.was)
