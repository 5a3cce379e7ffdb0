use Rattle.iv_cover.specs.Depth.{depth}
use Rattle.iv_cover.proofs.EmptyMeanings.{empty-bare, empty-all, empty-apart}
use Rattle.iv_pair.proofs.lemmas.uncovered_parts_are_maximal.Goals as goal

pub returns-clause-bare : goal.returns-clause-bare
returns-clause-bare c = λ second a part there. empty-bare (depth second a.seq) a.start a.stop part there

pub returns-clause-all : goal.returns-clause-all
returns-clause-all c = λ second a p low high none. empty-all (depth second a.seq) a.start a.stop p low high none

pub returns-clause-apart : goal.returns-clause-apart
returns-clause-apart c = λ second a x y here there low. empty-apart (depth second a.seq) a.start a.stop x y here there low
