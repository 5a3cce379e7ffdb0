use Rattle.iv_args.proofs.PieceLemmas.{plan-swapped}
use Rattle.iv_args.proofs.subcommand.options_among_view_arguments.Goals as goal

pub returns : goal.returns
returns c = plan-swapped
