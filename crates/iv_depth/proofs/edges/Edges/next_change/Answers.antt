use Rattle.std.proofs.Common.{refl, sym, ap, subst, arith}
use Rattle.std.proofs.lemmas.Int.{ints}
use Rattle.iv_depth.specs.Inside.Edges.{SkipsEdges, edge_count}
use Rattle.iv_depth.proofs.EdgeLemmas.{skips-next, takes-change, fewer-left, nothing-left}
use Rattle.iv_depth.proofs.edges.Edges.next_change.Goals as goal

pub loop-position-init : goal.loop-position-init
loop-position-init c = record {
  skips = λ from rise. subst (SkipsEdges from c.args.self.now) (sym c.self.view_is) (record { sums = λ passes. refl; rise = rise });
  few = c.self.invariant;
  no_more = omega (arith, ap edge_count c.self.view_is);
}

pub loop-position-preserved : goal.loop-position-preserved
loop-position-preserved c =
    let i = c.loop-position.invariant in
    let starts = c.pass-begun in
    let stops = c.pass-ended in
    record {
      skips = λ from rise. skips-next from c.in-Some.position starts.result.0 stops.result.0 c.args.self.now _ _ (i.skips from rise) c.in-Some.ensures
          starts.ensures.passed stops.ensures.passed c.if-begun-ended.false;
      few = (omega (arith, i.few, starts.ensures.len), omega (arith, i.few, stops.ensures.len));
      no_more = omega (arith, i.no_more, starts.ensures.len, stops.ensures.len);
    }

pub loop-position-smaller : goal.loop-position-smaller
loop-position-smaller c =
    let starts = c.pass-begun in
    let stops = c.pass-ended in
    fewer-left c.in-Some.position starts.result.0 stops.result.0 _ _ c.in-Some.ensures starts.ensures.none stops.ensures.none
    starts.ensures.len stops.ensures.len

pub returns-then-begun-ended-clause-change : goal.returns-then-begun-ended-clause-change
returns-then-begun-ended-clause-change c = λ from rise.
    let i = c.loop-position.invariant in
    let starts = c.pass-begun in
    let stops = c.pass-ended in
    takes-change from c.in-Some.position starts.result.0 stops.result.0 c.args.self.now _ _ (i.skips from rise) c.in-Some.ensures
    starts.ensures.passed stops.ensures.passed _ (omega (arith, ints, i.few, starts.ensures.len, stops.ensures.len)) c.if-begun-ended.true

pub returns-then-begun-ended-clause-fewer : goal.returns-then-begun-ended-clause-fewer
returns-then-begun-ended-clause-fewer c =
    let starts = c.pass-begun in
    let stops = c.pass-ended in
    omega (
      arith,
      c.loop-position.invariant.no_more,
      fewer-left c.in-Some.position starts.result.0 stops.result.0 _ _ c.in-Some.ensures starts.ensures.none stops.ensures.none
          starts.ensures.len stops.ensures.len,
    )

pub returns-then-begun-ended-clause-no_more : goal.returns-then-begun-ended-clause-no_more
returns-then-begun-ended-clause-no_more c =
    omega (arith, c.loop-position.invariant.no_more, c.pass-begun.ensures.len, c.pass-ended.ensures.len)

pub returns-clause-change : goal.returns-clause-change
returns-clause-change c = λ from rise. nothing-left from c.args.self.now _ c.in_default.ensures.0 c.in_default.ensures.1
    (c.loop-position.invariant.skips from rise)
