-- What a sweep holds. This is the state of `PairSweep`, as seen by its proof.
use Rattle.std.specs.Prelude.{◌≡◌, List, []}
use Rattle.iv_lines.specs.Ordered.{AreInOrder}
use Rattle.iv_lines.specs.RecordValue.{RecordValue}
use Rattle.iv_pair.specs.Inside.Counts.{AreEndsOf}
use Rattle.iv_pair.specs.declared.intersect.IntersectOutput.TheVariants.{Count}
use Rattle.iv_pair.specs.declared.pair_rows.PairOutput.{PairOutput}
use Rattle.iv_pair.specs.declared.pair_rows.PairOutput.TheVariants.{Intersect}
use Rattle.iv_pair.specs.declared.pair_sweep.Room.{Room}
use Rattle.iv_pair.specs.declared.pair_sweep.Room.TheVariants.{Hits, Ends}

-- the room is empty; or it has the ends of the second list, and only the numbers of hits are put
abbrev pub IsRoom : {A : Type 0} → PairOutput → List RecordValue → Room A → Type 0
IsRoom output second (Hits room) = room.items ≡ []
IsRoom output second (Ends ends) = (output ≡ Intersect Count) × AreEndsOf ends.items second

-- the second list is in order, and the room is for these rows beside it
pub record IsSweep {A : Type 0} (output : PairOutput) (second : List RecordValue) (room : Room A) : Type 0 where
  pub ordered : AreInOrder second
  pub fits : IsRoom output second room
