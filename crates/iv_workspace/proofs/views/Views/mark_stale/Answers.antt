use Rattle.std.proofs.Common.{◌≡◌, ◌∙◌, true, ap, refl, subst, length, arith}
use Rattle.std.specs.Prelude.{◌||◌, not}
use Rattle.iv_lines.proofs.NamedLemmas.{length-set_value_at}
use Rattle.iv_workspace.specs.Inside.ViewStates.{IsKept, all_owned}
use Rattle.iv_workspace.proofs.StateLemmas.{marked, marks-begin, marks-in, marks-end, same-there}
use Rattle.iv_workspace.proofs.views.Views.mark_stale.Goals as goal

pub loop-index-init : goal.loop-index-init
loop-index-init g c = (marks-begin _ _ refl, omega (arith, c.len-index-end.ensures.value, ap length c.self.view_is))

pub invariant_of-self : goal.invariant_of-self
invariant_of-self g c = omega (arith, length-set_value_at c.self-in-loop-index.inside.views c.loop-index.index (marked c.index_mut-opened.result.now (c.index_mut-opened.result.now.stale || not c.is_kept-kept.result)), c.self-in-loop-index.invariant)

pub loop-index-preserved : goal.loop-index-preserved
loop-index-preserved g c = (
  marks-in _ _ _ c.self-in-loop-index.view_is c.loop-index.index _ c.index_mut-opened.ensures.value _ c.is_kept-kept.result c.loop-index.invariant.0
      (subst (λ v. (c.is_kept-kept.result ≡ true → IsKept (all_owned c.loop-index.self) v.view) × (IsKept (all_owned c.loop-index.self) v.view → c.is_kept-kept.result ≡ true))
      (same-there _ _ c.index.ensures c.index_mut-opened.ensures.value) c.is_kept-kept.ensures)
      refl,
  length-set_value_at c.self-in-loop-index.inside.views c.loop-index.index _ ∙ ap length c.self-in-loop-index.view_is ∙ c.loop-index.invariant.1,
)

pub returns : goal.returns
returns g c = marks-end _ _ _ c.loop-index.invariant.0 (omega (arith, c.loop-index-test.false, c.loop-index.invariant.1))
