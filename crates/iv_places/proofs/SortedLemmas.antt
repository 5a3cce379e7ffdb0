-- Records that are sorted.
use Rattle.std.proofs.Common.{◌≡◌, sym, subst}
use Rattle.std.specs.Prelude.{All}
use Rattle.iv_lines.specs.Bed.{Bed}
use Rattle.iv_lines.specs.Genome.{Sequences}
use Rattle.iv_lines.specs.Ordered.{ordered, AreInOrder}
use Rattle.iv_lines.specs.Read.{Fits, IsOnGenome}
use Rattle.iv_lines.proofs.OrderedLemmas.{ordered-in_order, ordered-all}

-- records that fit a genome lie on it
pub on_genome-fit : (g : Sequences) (file : Bed) → All (Fits g file.width) file.records → All (IsOnGenome g) file.records
on_genome-fit g file fit = λ k e within. let fits : Fits g file.width _ = fit k e within in fits.is_placed

-- they are where they were
pub on_genome-sorted : (g : Sequences) (file sorted : Bed) → All (IsOnGenome g) file.records → sorted ≡ record file { records = ordered file.records } → All (IsOnGenome g) sorted.records
on_genome-sorted g file sorted lie is = subst (λ (b : Bed). All (IsOnGenome g) b.records) (sym is) (ordered-all (IsOnGenome g) file.records lie)

-- they are in order
pub order-sorted : (file sorted : Bed) → sorted ≡ record file { records = ordered file.records } → AreInOrder sorted.records
order-sorted file sorted is = subst (λ (b : Bed). AreInOrder b.records) (sym is) (ordered-in_order file.records)
