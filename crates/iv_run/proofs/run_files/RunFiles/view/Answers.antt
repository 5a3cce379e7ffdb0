use Rattle.std.proofs.Common.{sym, ap, ◌∙◌}
use Rattle.std.specs.Option.{is_some}
use Rattle.std.proofs.lemmas.Result.{err_from_is_err_and}
use Rattle.iv_view.proofs.NarrowingLemmas.{view-narrowed, fault-narrowed}
use Rattle.iv_run.specs.Inside.Shots.{view_beside}
use Rattle.iv_run.specs.Loading.{Parsed}
use Rattle.iv_run.proofs.run_files.RunFiles.view.Goals as goal

pub returns-in_err-view : goal.returns-in_err-view
returns-in_err-view g c =
    let files = c.args.self.now in
    let p = err_from_is_err_and c.from_residual.result c.from_residual.ensures.1 in
    rw (p.1, p.2) (sym (fault-narrowed files.first.width (is_some files.second) (is_some files.bases) c.args.plan.now.view _ (sym c.view.ensures ∙ c.in_err-view.was)))

pub returns : goal.returns
returns g c =
    let inside = c.self.inside in
    rw (c.width.ensures.value, c.is_some.ensures, c.is_some-2.ensures) at c.narrowed.ensures
    ∙ view-narrowed inside.first.width (is_some inside.second) (is_some inside.fasta) c.args.plan.now.view c.in_ok-view.view (sym c.view.ensures ∙ c.in_ok-view.was)
    ∙ ap (λ (files : Parsed). view_beside files c.args.plan.now.view) c.self.view_is
