use Rattle.std.proofs.Common.{◌∙◌}
use Rattle.iv_lines.specs.Named.{names_of}
use Rattle.iv_workspace.proofs.views.Views.put.Goals as goal

pub print-requires-clause-kept : goal.print-requires-clause-kept
print-requires-clause-kept g c = (c.in-Some.ensures.right (names_of c.args.genome.now) c.args.track.now.records c.requires.right.0).0 ∙ c.state_key.ensures

pub print_in-requires-clause-kept : goal.print_in-requires-clause-kept
print_in-requires-clause-kept g c = (c.in-Some.ensures.right (names_of c.args.genome.now) c.args.track.now.records c.requires.right.0).0 ∙ c.state_key.ensures
