use Rattle.iv_cover.specs.Blocks.{start_of, stop_of}
use Rattle.iv_cover.proofs.Meanings.{filled, starts-apart}
use Rattle.iv_cover.proofs.lemmas.gaps_separate_blocks.Goals as goal

pub returns-clause-within : goal.returns-clause-within
returns-clause-within c = λ d records x p. filled start_of stop_of d records x p

pub returns-clause-between : goal.returns-clause-between
returns-clause-between c = λ d records x y. starts-apart start_of stop_of d records x y
