use Rattle.iv_pair.proofs.HitsLemmas.{overlap-means}
use Rattle.iv_pair.proofs.lemmas.overlap_is_a_shared_position.Goals as goal

pub returns : goal.returns
returns c = overlap-means
