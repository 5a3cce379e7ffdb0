use Rattle.std.proofs.Common.{◌∙◌, refl, ap}
use Rattle.iv_workspace.specs.Inside.ViewStates.{seen}
use Rattle.iv_workspace.specs.States.{State}
use Rattle.iv_workspace.specs.Views.{view_named}
use Rattle.iv_workspace.proofs.PrintLemmas.{match-none, match-some}
use Rattle.iv_workspace.proofs.session.Session.is_current.Goals as goal

pub returns-in-Some : goal.returns-in-Some
returns-in-Some g c =
    match-some _ _ _ (seen c.in-Some.opened.now) (c.in-Some.ensures.seen ∙ ap (λ (s : State). view_named s.views c.args.name.now) c.self.view_is) refl

pub returns-in-None : goal.returns-in-None
returns-in-None g c = match-none _ _ _ (c.in-None.ensures.seen ∙ ap (λ (s : State). view_named s.views c.args.name.now) c.self.view_is) refl
