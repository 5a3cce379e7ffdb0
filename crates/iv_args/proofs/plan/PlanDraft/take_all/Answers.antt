use Rattle.std.proofs.Common.{inl, inr, ap, ◌∙◌, map, sym}
use Rattle.iv_lines.proofs.ListLemmas.{one-up}
use Rattle.iv_lines.proofs.PieceLemmas.{handed-on, rest-whole}
use Rattle.iv_args.specs.Inside.Drafts.{drafted}
use Rattle.iv_args.proofs.plan.PlanDraft.take_all.Goals as goal

pub arguments-preserved : goal.arguments-preserved
arguments-preserved g c =
    c.arguments.invariant ∙ ap (λ l. drafted c.args.run l c.arguments.self) (one-up (λ argument. argument.now) c.arguments.rest.now _ c.in-len1-up.len_at_least)
    ∙ c.in_ok-values.ensures.ok ∙ ap (λ l. drafted c.args.run l c.take.new.self) (ap (map (λ argument. argument.now)) (sym (rest-whole _ c.in_ok-values.values)))

pub returns-in_err-values-clause-err : goal.returns-in_err-values-clause-err
returns-in_err-values-clause-err g c =
    let arguments = c.arguments.invariant ∙ ap (λ l. drafted c.args.run l c.arguments.self) (one-up (λ argument. argument.now) c.arguments.rest.now _ c.in-len1-up.len_at_least) in
    handed-on c.from_residual.result _ _ c.from_residual.ensures.1 (elim c.in_err-values.ensures.err [
      | inl memory ↦ inl memory
      | inr refused ↦ inr (refused.0, arguments ∙ refused.1)
    ])
