use Rattle.iv_lines.specs.RecordValue.{record_cmp}
use Rattle.iv_places.specs.Inside.Places.{record_at}
use Rattle.iv_track.proofs.GroupLemmas.{AreTaken}
use Rattle.iv_track.proofs.counted.take_copies.Given as goal

abbrev pub invariant-loop-next : goal.invariant-loop-next
invariant-loop-next g l = AreTaken record_cmp (record_at l.rests.width l.rests.bytes) l.place l.fn.places.items l.places.items l.copies

abbrev pub decreases-loop-next : goal.decreases-loop-next
decreases-loop-next g l = goal.left-loop-next g l
