use Rattle.std.proofs.Common.{arith, refl, sym, subst, ◌∙◌}
use Rattle.iv_depth.specs.Inside.Edges.{BeginsElse}
use Rattle.iv_depth.proofs.EdgeLemmas.{Passes-begin, Passes-next, Passes-stop}
use Rattle.iv_depth.proofs.edges.pass.Goals as goal

pub loop-item-init : goal.loop-item-init
loop-item-init c = record {
  passing = λ rise. Passes-begin c.args.position c.args.items.now rise;
  first = λ none. refl;
  len = omega arith;
}

pub loop-item-preserved : goal.loop-item-preserved
loop-item-preserved c =
    let i = c.loop-item.invariant in
    let first = c.in-Some.ensures.cases in record {
      passing = λ rise. Passes-next c.args.position c.loop-item.count c.in-Some.item.now c.args.items.now c.loop-item.left.now c.in-Some.others.now
          (i.passing rise) first.0 c.if-item-position.false;
      first = λ none. absurd (omega (arith, none));
      len = omega (arith, i.len, first.1);
    }

pub returns-then-item-position-clause-passed : goal.returns-then-item-position-clause-passed
returns-then-item-position-clause-passed c = λ rise.
    Passes-stop c.args.position c.loop-item.count c.in-Some.item.now c.args.items.now c.loop-item.left.now c.in-Some.others.now
    (c.loop-item.invariant.passing rise) c.in-Some.ensures.cases.0 c.if-item-position.true

pub returns-then-item-position-clause-none : goal.returns-then-item-position-clause-none
returns-then-item-position-clause-none c = λ none.
    subst (BeginsElse c.args.position) (sym c.in-Some.ensures.cases.0 ∙ c.loop-item.invariant.first none)
    c.if-item-position.true
