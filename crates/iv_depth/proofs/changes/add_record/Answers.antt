use Rattle.std.specs.Prelude.{List}
use Rattle.std.proofs.lemmas.Result.{on_ok_weaker}
use Rattle.iv_lines.specs.RecordValue.{RecordValue}
use Rattle.iv_depth.proofs.ChangesLemmas.{AreChangesOf-added}
use Rattle.iv_depth.proofs.changes.add_record.Goals as goal

pub returns-clause-ok : goal.returns-clause-ok
returns-clause-ok g c =
    on_ok_weaker c.shift.result (λ shift (records : List RecordValue). AreChangesOf-added c.args.feature.now records c.args.changes.now c.shift.new.changes shift) c.shift.ensures.ok
