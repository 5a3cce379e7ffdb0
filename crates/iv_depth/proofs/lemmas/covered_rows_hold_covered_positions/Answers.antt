use Rattle.iv_cover.specs.Depth.{depth}
use Rattle.iv_lines.proofs.ListLemmas.{contains-mem, mem-contains}
use Rattle.iv_depth.specs.DepthRows.{covered_runs}
use Rattle.iv_depth.proofs.Covered.{covered-held, covered-run}
use Rattle.iv_depth.proofs.lemmas.covered_rows_hold_covered_positions.Goals as goal

pub returns-clause-held : goal.returns-clause-held
returns-clause-held c = λ records seq length p low some.
    let h = covered-held (depth records seq) length p low some in
    (h.0, mem-contains (covered_runs (depth records seq) 0 length) h.0 h.1, h.2, h.3)

pub returns-clause-covered : goal.returns-clause-covered
returns-clause-covered c = λ records seq length run there.
    covered-run (depth records seq) length run (contains-mem (covered_runs (depth records seq) 0 length) run there)
