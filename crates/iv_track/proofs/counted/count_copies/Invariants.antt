use Rattle.std.proofs.Common.{length}
use Rattle.iv_lines.specs.RecordValue.{record_cmp}
use Rattle.iv_places.specs.Inside.Places.{IsPlace, record_at}
use Rattle.iv_track.proofs.GroupLemmas.{AreGrouped}
use Rattle.iv_track.proofs.counted.count_copies.Given as goal

abbrev pub invariant-loop-place : goal.invariant-loop-place
invariant-loop-place g l = AreGrouped record_cmp (record_at l.rests-inside.width l.rests-inside.bytes.items) (IsPlace l.rests-inside.width l.rests-inside.bytes.items) l.fn.places.records l.entries l.places.items

abbrev pub decreases-loop-place : goal.decreases-loop-place
decreases-loop-place g l = length l.places.items
