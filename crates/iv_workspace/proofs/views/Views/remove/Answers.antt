use Rattle.std.proofs.Common.{◌∙◌, ◌∷◌, sym, ap, subst}
use Rattle.std.specs.Map.{lookup, remove_entry}
use Rattle.std.specs.Str.{bytes_eq}
use Rattle.iv_workspace.specs.Inside.ViewStates.{AreOwnRight, HaveStates, all_owned, all_seen, owned}
use Rattle.iv_workspace.proofs.OpenViewLemmas.{remove-seen}
use Rattle.iv_workspace.proofs.StateLemmas.{closed-right, own-kept}
use Rattle.iv_workspace.proofs.views.Views.remove.Goals as goal

pub returns-in_default-clause-seen : goal.returns-in_default-clause-seen
returns-in_default-clause-seen g c =
    let left = c.remove.ensures.rest ∙ ap (remove_entry (bytes_eq c.args.name.now)) c.self.view_is in
    ap all_seen left ∙ remove-seen c.args.name.now c.args.self.now

pub returns-clause-seen : goal.returns-clause-seen
returns-clause-seen g c =
    let left = c.remove.ensures.rest ∙ ap (remove_entry (bytes_eq c.args.name.now)) c.self.view_is in
    c.hand_on.ensures.seen ∙ ap all_seen left ∙ remove-seen c.args.name.now c.args.self.now

pub returns-clause-right : goal.returns-clause-right
returns-clause-right g c = λ names records right.
    let left = c.remove.ensures.rest ∙ ap (remove_entry (bytes_eq c.args.name.now)) c.self.view_is in
    let v = c.in-Some.closed in
    let all = closed-right c.args.name.now c.args.self.now v names records (sym (c.in-Some.ensures.value ∙ ap (lookup (bytes_eq c.args.name.now)) c.self.view_is)) right in
    c.hand_on.ensures.right names records (subst (λ l. AreOwnRight l names records) (sym left) all.0)
    (subst (λ l. HaveStates (owned v ∷ all_owned l) (all_seen l)) (sym left) all.1) (own-kept v names records all.2)
