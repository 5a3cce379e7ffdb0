use Rattle.iv_blocks.proofs.NumberLemmas.{number-means}
use Rattle.iv_blocks.proofs.lemmas.numbers_are_of_blocks.Goals as goal

pub returns : goal.returns
returns c = λ d g records q r lie here there. number-means d g records lie q r here there
