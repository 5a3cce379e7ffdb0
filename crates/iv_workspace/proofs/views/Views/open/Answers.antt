use Rattle.std.proofs.Common.{◌∙◌, ◌++◌, ◌∷◌, [], ap, sym, subst}
use Rattle.std.proofs.lemmas.Result.{on_ok_weaker}
use Rattle.iv_lines.specs.Named.{names_of, name_index}
use Rattle.iv_lines.proofs.NamedLemmas.{unplaced}
use Rattle.iv_workspace.specs.Inside.ViewStates.{AreRight, all_seen}
use Rattle.iv_workspace.proofs.OpenViewLemmas.{seen-append}
use Rattle.iv_workspace.proofs.StateLemmas.{opened-right, renewed}
use Rattle.iv_workspace.proofs.views.Views.open.Goals as goal

pub push-requires : goal.push-requires
push-requires g c = record { fresh = ap (λ l. name_index l c.args.name.now) c.self.view_is ∙ unplaced c.args.self.now c.args.name.now c.requires.fresh }

pub returns-clause-right : goal.returns-clause-right
returns-clause-right g c =
    let right = opened-right (names_of c.args.genome.now) c.args.track.now.records c.args.self.now c.args.name.now c.args.view c.in_ok-state.state c.in_ok-state.ensures c.requires.right in
    on_ok_weaker c.push.result (λ ok. subst (λ l. AreRight l (names_of c.args.genome.now) c.args.track.now.records) (sym (ok ∙ ap (λ l. l ++ (c.args.name.now, renewed c.args.view c.in_ok-state.state) ∷ []) c.self.view_is)) right) c.push.ensures.ok

pub returns-clause-ok : goal.returns-clause-ok
returns-clause-ok g c = on_ok_weaker c.push.result (λ ok. ap all_seen (ok ∙ ap (λ l. l ++ (c.args.name.now, renewed c.args.view c.in_ok-state.state) ∷ []) c.self.view_is) ∙ seen-append c.args.self.now ((c.args.name.now, renewed c.args.view c.in_ok-state.state) ∷ [])) c.push.ensures.ok
