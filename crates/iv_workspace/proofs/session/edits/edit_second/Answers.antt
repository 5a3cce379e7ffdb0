use Rattle.std.specs.Prelude.{IfErr}
use Rattle.std.proofs.Common.{sym, subst}
use Rattle.iv_workspace.specs.Edits.{RefusesEdit}
use Rattle.iv_workspace.specs.declared.session.edits.Edit.{Edit}
use Rattle.iv_workspace.proofs.session.edits.edit_second.Goals as goal

pub returns-in-Replace-clause-why : goal.returns-in-Replace-clause-why
returns-in-Replace-clause-why g c = subst (λ (e : Edit). IfErr c.replace.result (RefusesEdit e c.args.second.now)) (sym c.in-Replace.is) c.replace.ensures.why
