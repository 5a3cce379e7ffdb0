use Rattle.std.proofs.Common.{◌∙◌, arith}
use Rattle.iv_view.proofs.RegionLemmas.{first-depth, near-first}
use Rattle.iv_view.proofs.kept_state.print_depth_in.Goals as goal

pub print_depth_in-requires-clause-at : goal.print_depth_in-requires-clause-at
print_depth_in-requires-clause-at g c = c.depth_at-first.ensures.depth ∙ first-depth c.args.track.now.records c.args.at.seq c.args.at.start

pub returns-clause-steps : goal.returns-clause-steps
returns-clause-steps g c =
    let fewer = near-first c.args.at c.args.track.now.records c.requires.within.some in
    record {
      no_less = omega (arith, c.depth_at-first.ensures.steps, c.print_depth_in.ensures.steps);
      at_most = omega (arith, c.depth_at-first.ensures.steps, c.print_depth_in.ensures.steps, fewer);
    }
