use Rattle.iv_lines.specs.Named.{names_of}
use Rattle.iv_workspace.proofs.OpenViewLemmas.{stales-trans}
use Rattle.iv_workspace.proofs.views.Views.repair.Goals as goal

pub returns-then-not-repair_each-clause-right : goal.returns-then-not-repair_each-clause-right
returns-then-not-repair_each-clause-right g c =
    (c.mark_stale.ensures.right (names_of c.args.genome.now) c.args.track.now.records c.repair_each.ensures.right, c.mark_stale.ensures.states)

pub returns-then-not-repair_each-clause-stales : goal.returns-then-not-repair_each-clause-stales
returns-then-not-repair_each-clause-stales g c = stales-trans _ _ _ c.repair_each.ensures.stales c.mark_stale.ensures.stales
