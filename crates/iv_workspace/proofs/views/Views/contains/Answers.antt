use Rattle.iv_workspace.proofs.OpenViewLemmas.{some-seen}
use Rattle.iv_workspace.proofs.views.Views.contains.Goals as goal

pub returns-clause-seen : goal.returns-clause-seen
returns-clause-seen g c = some-seen _ _ _ c.is_some.ensures c.find.ensures.seen
