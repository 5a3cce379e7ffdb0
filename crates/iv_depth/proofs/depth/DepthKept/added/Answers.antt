use Rattle.std.proofs.Common.{◌≡◌, List, ◌∷◌, arith}
use Rattle.std.proofs.lemmas.Result.{on_ok_weaker}
use Rattle.iv_lines.specs.RecordValue.{RecordValue}
use Rattle.iv_depth.specs.Changes.{AreChangesOf}
use Rattle.iv_depth.proofs.DepthLemmas.{AreChangesOf-placed, AreChanges-without}
use Rattle.iv_depth.proofs.depth.DepthKept.added.Goals as goal

pub add_record-requires : goal.add_record-requires
add_record-requires g c =
    let before = c.requires.right in
    let entries : c.self.inside.changes ≡ c.args.self.now = c.self.view_is in
    AreChanges-without c.args.track.now.records before.others c.args.feature.now c.self.inside.changes before.rows_are (omega (arith, c.len-few.ensures))
    (rw entries before.right)

pub returns-clause-right : goal.returns-clause-right
returns-clause-right g c =
    let before = c.requires.right in
    let entries : c.self.inside.changes ≡ c.args.self.now = c.self.view_is in
    on_ok_weaker c.add_record.result
    (λ (step : (records : List RecordValue) → AreChangesOf records c.self.inside.changes → AreChangesOf (c.args.feature.now ∷ records) c.add_record.new.changes).
    rw before.rows_are (AreChangesOf-placed before.others c.args.feature.now c.add_record.new.changes (step before.others (rw entries before.right))))
    c.add_record.ensures.ok
