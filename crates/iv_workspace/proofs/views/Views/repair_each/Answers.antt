use Rattle.std.proofs.Common.{◌∙◌, sym, arith}
use Rattle.iv_lines.proofs.NamedLemmas.{length-set_value_at}
use Rattle.iv_lines.specs.Named.{names_of}
use Rattle.iv_workspace.specs.Inside.ViewStates.{IsOwnRight}
use Rattle.iv_workspace.proofs.StateLemmas.{repairs-begin, repairs-at, repairs-next, repairs-end}
use Rattle.iv_workspace.proofs.views.Views.repair_each.Goals as goal

pub loop-index-init : goal.loop-index-init
loop-index-init g c = (repairs-begin _ _ _ _ _ _ _ c.self.view_is, sym c.len-index-end.ensures.value, omega (arith, c.self.invariant, c.len-index-end.ensures.value))

pub repair-kept-requires-clause-right : goal.repair-kept-requires-clause-right
repair-kept-requires-clause-right g c = record {
  before = c.requires.right.before;
  right = repairs-at _ _ _ _ _ (λ v. IsOwnRight v (names_of c.args.genome.now) c.requires.right.before) _ c.loop-index.self-inside.views c.loop-index.index _ _ _
      c.loop-index.invariant.0 c.index_mut-view.ensures.value c.requires.right.right;
  changed = c.requires.right.changed;
}

pub loop-index-preserved : goal.loop-index-preserved
loop-index-preserved g c = (
  repairs-next _ _ _ _ _ _ _ c.loop-index.self-inside.views c.loop-index.index _ _ _ _ _ c.loop-index.invariant.0 c.index_mut-view.ensures.value c.repair-kept.ensures,
  length-set_value_at c.loop-index.self-inside.views c.loop-index.index _ ∙ c.loop-index.invariant.1,
  c.loop-index.invariant.2,
)

pub returns : goal.returns
returns g c = repairs-end _ _ _ _ _ _ _ _ _ _ c.loop-index.invariant.0 (omega (arith, c.loop-index.invariant.1))
