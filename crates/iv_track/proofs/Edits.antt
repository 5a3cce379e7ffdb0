-- The records of a track with one more, and with one less.
use Rattle.std.proofs.Common.{◌≡◌, ◌<◌, List, arith}
use Rattle.std.specs.Prelude.{All}
use Rattle.std.proofs.lemmas.List.Elements.{All-from_recursion, recursion_from_All}
use Rattle.iv_lines.specs.Ordered.{copies, added, AreInOrder}
use Rattle.iv_lines.specs.RecordValue.{RecordValue, record_cmp, records_total}
use Rattle.iv_lines.proofs.OrderedLemmas.{all-added, in_order-added, copies-added, rows-alone}
use Rattle.iv_track.specs.Edits.{RefusesRemove}
use Rattle.iv_track.specs.Tracked.{Tracked, removed}
use Rattle.iv_lines.specs.declared.fault.Fault.{Fault}
use Rattle.iv_lines.specs.declared.fault.Fault.TheVariants as fault
use Rattle.iv_track.proofs.Counts.{all-removed, in_order-removed, copies-removed}

-- what holds of all records, and of one more
pub All-added : (P : RecordValue → Type 0) (records : List RecordValue) (r : RecordValue) → All P records → P r → All P (added records r)
All-added P records r all p = All-from_recursion P (added records r) (all-added record_cmp P records r p (recursion_from_All P records all))

-- what holds of all records holds of those that are left
pub All-removed : (P : RecordValue → Type 0) (records : List RecordValue) (r : RecordValue) → All P records → All P (removed records r)
All-removed P records r all = All-from_recursion P (removed records r) (all-removed record_cmp P records r (recursion_from_All P records all))

-- a record that was taken out and is put in again
pub added-removed : (records : List RecordValue) (r : RecordValue) → AreInOrder records → 0 < copies records r → records ≡ added (removed records r) r
added-removed records r order there =
    rows-alone records (added (removed records r) r) order (in_order-added record_cmp records_total (removed records r) r (in_order-removed record_cmp records r order))
    (λ q. omega (arith, copies-added record_cmp (removed records r) r q, copies-removed record_cmp records_total records r q there))

-- whatever the fault of a removal is, the record is not there
pub refused-absent : (t : Tracked) (r : RecordValue) (f : Fault) → RefusesRemove t r f → copies t.records r ≡ 0
refused-absent t r fault.Absent why = why
refused-absent t r other why = elim why [ ]
