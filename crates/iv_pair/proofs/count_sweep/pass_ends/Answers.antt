use Rattle.std.proofs.Common.{◌∙◌, sym}
use Rattle.iv_pair.specs.Inside.Counts.{end_by}
use Rattle.iv_pair.proofs.FrontLemmas.{passes-more, stops-at, stops-past}
use Rattle.iv_pair.proofs.count_sweep.pass_ends.Goals as goal

pub loop-passed-preserved : goal.loop-passed-preserved
loop-passed-preserved c =
    passes-more (end_by c.args.seq c.args.at) c.args.ends.now c.loop-passed.passed (record { seq = 0; stop = 0 }) (c.requires.ordered c.args.seq c.args.at)
    c.loop-passed.invariant c.loop-passed-test.true (sym c.is_by.ensures ∙ c.if-not-is_by.false)

pub returns-then-not-is_by : goal.returns-then-not-is_by
returns-then-not-is_by c =
    stops-at (end_by c.args.seq c.args.at) c.args.ends.now c.loop-passed.passed (record { seq = 0; stop = 0 }) (c.requires.ordered c.args.seq c.args.at)
    c.loop-passed.invariant (sym c.is_by.ensures ∙ c.if-not-is_by.true)

pub returns : goal.returns
returns c = stops-past (end_by c.args.seq c.args.at) c.args.ends.now c.loop-passed.passed c.loop-passed.invariant c.loop-passed-test.false
