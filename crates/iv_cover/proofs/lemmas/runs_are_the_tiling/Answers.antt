use Rattle.iv_cover.proofs.RunsLemmas.{Tiles-runs, Tiles-only}
use Rattle.iv_cover.proofs.lemmas.runs_are_the_tiling.Goals as goal

pub returns-clause-tiles : goal.returns-clause-tiles
returns-clause-tiles c = Tiles-runs

pub returns-clause-only : goal.returns-clause-only
returns-clause-only c = Tiles-only
