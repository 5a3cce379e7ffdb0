use Rattle.iv_cover.proofs.ReadAheadLemmas.{shows-next}
use Rattle.iv_cover.proofs.record_walk.PlacedRecordsRecordWalk.next_interval.Goals as goal

pub returns-clause-next : goal.returns-clause-next
returns-clause-next c = shows-next c.places.result.now c.args.self.now c.in_ok-place.place.now c.places.ensures.spots c.in_ok-place.ensures.value
