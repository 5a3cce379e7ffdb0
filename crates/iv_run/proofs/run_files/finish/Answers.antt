use Rattle.std.proofs.lemmas.Result.{err_from_is_err_and}
use Rattle.iv_run.proofs.PieceLemmas.{keeps-end_fault, keeps-fault, keeps-file}
use Rattle.iv_run.proofs.run_files.finish.Goals as goal

pub returns-in_err-reader-clause-says : goal.returns-in_err-reader-clause-says
returns-in_err-reader-clause-says g c = λ text says.
    let p = err_from_is_err_and c.from_residual.result c.from_residual.ensures.1 in
    rw (p.1, p.2) (keeps-fault c.args.columns c.args.genome.now c.args.limit c.args.empty_width text _ (rw c.in_err-reader.was at says))

pub returns-in_err-places-clause-says : goal.returns-in_err-places-clause-says
returns-in_err-places-clause-says g c = λ text says.
    let p = err_from_is_err_and c.from_residual-in_err-places.result c.from_residual-in_err-places.ensures.1 in
    rw (p.1, p.2) (keeps-end_fault c.args.columns c.args.genome.now c.args.limit c.args.empty_width text _ _ (rw c.in_ok-reader.was at says) c.in_err-places.ensures.err)

pub returns-clause-says : goal.returns-clause-says
returns-clause-says g c = λ text says.
    keeps-file c.args.columns c.args.genome.now c.args.limit c.args.empty_width text _ _ (rw c.in_ok-reader.was at says) c.in_ok-places.ensures.ok

pub returns-clause-is_on : goal.returns-clause-is_on
returns-clause-is_on g c = record {
  fit = c.in_ok-places.ensures.fit;
  few = c.in_ok-places.ensures.few;
}
