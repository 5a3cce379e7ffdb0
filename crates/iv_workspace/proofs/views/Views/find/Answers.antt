use Rattle.std.proofs.Common.{◌∙◌, ap, sym}
use Rattle.std.specs.Map.{lookup}
use Rattle.std.specs.Option.{option_map}
use Rattle.std.specs.Str.{bytes_eq}
use Rattle.iv_workspace.specs.Inside.ViewStates.{seen}
use Rattle.iv_workspace.proofs.OpenViewLemmas.{seen-lookup}
use Rattle.iv_workspace.proofs.views.Views.find.Goals as goal

pub returns-in-Some-clause-seen : goal.returns-in-Some-clause-seen
returns-in-Some-clause-seen g c =
    ap (option_map seen) (c.in-Some.ensures.value ∙ ap (lookup (bytes_eq c.args.name.now)) c.self.view_is) ∙ sym (seen-lookup c.args.name.now c.args.self.now)

pub returns-in-None-clause-seen : goal.returns-in-None-clause-seen
returns-in-None-clause-seen g c =
    ap (option_map seen) (c.in-None.ensures.value ∙ ap (lookup (bytes_eq c.args.name.now)) c.self.view_is) ∙ sym (seen-lookup c.args.name.now c.args.self.now)
