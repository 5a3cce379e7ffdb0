use Rattle.std.proofs.Common.{arith}
use Rattle.iv_cover.specs.Depth.{depth}
use Rattle.iv_cover.proofs.EmptyMeanings.{empty-bare, empty-all, empty-apart, empty-once}
use Rattle.iv_blocks.proofs.lemmas.gaps_are_maximal.Goals as goal

pub returns-clause-bare : goal.returns-clause-bare
returns-clause-bare c = λ records seq length gap there.
    let bare = empty-bare (depth records seq) 0 length gap there in
    (bare.1, bare.2, bare.3)

pub returns-clause-all : goal.returns-clause-all
returns-clause-all c = λ records seq length p low none. empty-all (depth records seq) 0 length p (omega arith) low none

pub returns-clause-apart : goal.returns-clause-apart
returns-clause-apart c = λ records seq length a b here there low. empty-apart (depth records seq) 0 length a b here there low

pub returns-clause-once : goal.returns-clause-once
returns-clause-once c = λ records seq length a b here there same. empty-once (depth records seq) 0 length a b here there same
