use Rattle.iv_args.proofs.PieceLemmas.{plan-never}
use Rattle.iv_args.proofs.subcommand.no_option_twice.Goals as goal

pub returns : goal.returns
returns c = plan-never
