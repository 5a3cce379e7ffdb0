use Rattle.iv_run.proofs.ReadingLemmas.{too_long-exact}
use Rattle.iv_run.proofs.run_files.too_long_above_the_limit.Goals as goal

pub returns : goal.returns
returns c = too_long-exact
