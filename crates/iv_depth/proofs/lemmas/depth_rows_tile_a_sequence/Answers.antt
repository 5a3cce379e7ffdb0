use Rattle.std.proofs.Common.{arith}
use Rattle.iv_cover.specs.Depth.{depth}
use Rattle.iv_cover.proofs.RunsLemmas.{Tiles-runs, Tiles-only}
use Rattle.iv_depth.proofs.lemmas.depth_rows_tile_a_sequence.Goals as goal

pub returns-clause-tile : goal.returns-clause-tile
returns-clause-tile c = λ records seq length. Tiles-runs (depth records seq) 0 length (omega arith)

pub returns-clause-alone : goal.returns-clause-alone
returns-clause-alone c = λ records seq length others. Tiles-only (depth records seq) 0 length others
