use Rattle.std.proofs.Common.{◌∙◌, sym, arith}
use Rattle.iv_pair.specs.Inside.Counts.{place_before}
use Rattle.iv_pair.proofs.FrontLemmas.{passes-more, stops-at}
use Rattle.iv_pair.proofs.count_sweep.pass_starts.Goals as goal

pub loop-passed-preserved : goal.loop-passed-preserved
loop-passed-preserved c =
    passes-more (place_before c.args.seq c.args.at) c.args.places.now c.loop-passed.passed (record { interval = record { seq = 0; start = 0; stop = 0 }; rest = 0 }) (c.requires.ordered c.args.seq c.args.at)
    c.loop-passed.invariant (omega (arith, c.loop-passed-test.true, c.requires.until)) (sym c.begins_before.ensures ∙ c.if-not-begins_before.false)

pub returns-then-not-begins_before-clause-all : goal.returns-then-not-begins_before-clause-all
returns-then-not-begins_before-clause-all c = λ _.
    stops-at (place_before c.args.seq c.args.at) c.args.places.now c.loop-passed.passed (record { interval = record { seq = 0; start = 0; stop = 0 }; rest = 0 }) (c.requires.ordered c.args.seq c.args.at)
    c.loop-passed.invariant (sym c.begins_before.ensures ∙ c.if-not-begins_before.true)
