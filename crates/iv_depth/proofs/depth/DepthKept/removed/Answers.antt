use Rattle.std.proofs.Common.{◌≡◌, List, ◌∷◌, arith}
use Rattle.std.proofs.lemmas.Result.{on_ok_weaker}
use Rattle.iv_lines.specs.RecordValue.{RecordValue}
use Rattle.iv_depth.specs.Changes.{AreChangesOf}
use Rattle.iv_depth.proofs.DepthLemmas.{AreChangesOf-in_front, AreChanges-with}
use Rattle.iv_depth.proofs.depth.DepthKept.removed.Goals as goal

pub remove_record-requires : goal.remove_record-requires
remove_record-requires g c =
    let entries : c.self.inside.changes ≡ c.args.self.now = c.self.view_is in
    AreChanges-with c.args.track.now.records c.args.feature.now c.self.inside.changes (omega (arith, c.len-few.ensures)) (rw entries c.requires.right)

pub returns-clause-right : goal.returns-clause-right
returns-clause-right g c =
    let entries : c.self.inside.changes ≡ c.args.self.now = c.self.view_is in
    on_ok_weaker c.remove_record.result
    (λ (step : (records : List RecordValue) → AreChangesOf (c.args.feature.now ∷ records) c.self.inside.changes → AreChangesOf records c.remove_record.new.changes).
    step c.args.track.now.records (AreChangesOf-in_front c.args.track.now.records c.args.feature.now c.self.inside.changes (rw entries c.requires.right)))
    c.remove_record.ensures.ok
