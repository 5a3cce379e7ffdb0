use Rattle.std.proofs.Common.{List, sym, subst}
use Rattle.std.specs.Prelude.{All}
use Rattle.iv_lines.specs.Ordered.{AreInOrder}
use Rattle.iv_lines.specs.Read.{IsOnGenome}
use Rattle.iv_lines.specs.RecordValue.{RecordValue}
use Rattle.iv_places.proofs.SortedLemmas.{on_genome-fit, on_genome-sorted, order-sorted}
use Rattle.iv_run.proofs.run_files.RunFiles.put.Goals as goal

pub print_from-requires-clause-order : goal.print_from-requires-clause-order
print_from-requires-clause-order g c = subst AreInOrder (sym c.records.ensures) (order-sorted c.self.inside.first c.sort.new.self c.in_ok-sort.ensures)

pub print_from-requires-clause-on_genome : goal.print_from-requires-clause-on_genome
print_from-requires-clause-on_genome g c =
    let inside = c.self.inside in
    subst (λ (records : List RecordValue). All (IsOnGenome inside.genome) records) (sym c.records.ensures)
    (on_genome-sorted inside.genome inside.first c.sort.new.self (on_genome-fit inside.genome inside.first c.self.invariant.0.fit) c.in_ok-sort.ensures)
