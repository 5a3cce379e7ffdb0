use Rattle.std.proofs.Common.{◌∙◌}
use Rattle.iv_cover.proofs.ReadAheadLemmas.{ahead-read}
use Rattle.iv_depth.proofs.change_cursor.ChangeCursor.of.Goals as goal

pub returns-clause-all : goal.returns-clause-all
returns-clause-all g c = ahead-read _ _ _ c.read-ahead.ensures.next ∙ c.walk_all-walk.ensures.entries
