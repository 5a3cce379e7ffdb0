use Rattle.std.proofs.Common.{rules}
use Rattle.iv_places.proofs.DedupLemmas.{dedup-joined}
use Rattle.iv_places.proofs.places.join_places.Goals as goal

pub returns : goal.returns
returns g c = dedup-joined _ (λ s x k b t x' k' h. search rules) _ _ _ c.dedup_by.ensures.filtered
