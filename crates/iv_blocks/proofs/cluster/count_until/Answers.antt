use Rattle.std.proofs.Common.{◌∙◌, sym, ap, arith, length, List}
use Rattle.iv_lines.specs.declared.interval.Interval.{Interval}
use Rattle.iv_blocks.specs.Inside.BlockCursor.{starts_until}
use Rattle.iv_blocks.proofs.BlockCursorLemmas.{given-some, TakesForEach-next, take-first, drop-first}
use Rattle.iv_blocks.proofs.cluster.count_until.Goals as goal

pub loop-count-preserved : goal.loop-count-preserved
loop-count-preserved g c =
    let i = c.loop-count.invariant in
    let test = starts_until c.args.seq c.args.position in
    let given = given-some test c.loop-count.ahead c.next_until.new.self c.next_until.result (sym c.is_some.ensures ∙ c.loop-count-test.true) c.next_until.ensures.next in
    let first = take-first test c.loop-count.ahead c.next_until.new.self given.0 given.1 given.2 in
    record {
      count = omega (arith, i.count, ap (λ (l : List Interval). length l) first);
      past = i.past ∙ drop-first test c.loop-count.ahead c.next_until.new.self given.0 given.1 given.2;
      steps = TakesForEach-next _ _ _ _ _ _ i.steps c.next_until.ensures.steps;
    }
