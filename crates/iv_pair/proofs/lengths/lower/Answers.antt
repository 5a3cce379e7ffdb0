use Rattle.std.proofs.Common.{◌≡◌, ◌∙◌, sym, Some}
use Rattle.iv_ledger.specs.Entries.{value_at, pair_cmp}
use Rattle.iv_track.proofs.StepLemmas.{takes_none, takes_one_more}
use Rattle.iv_track.proofs.TrackLemmas.{set_gives}
use Rattle.iv_pair.proofs.LengthLemmas.{count-pos, lowered_by_take, lowered_by_set, not-absent}
use Rattle.iv_pair.proofs.lengths.lower.Goals as goal

pub unreachable-requires : goal.unreachable-requires
unreachable-requires g c =
    not-absent c.args.lengths.now c.args.key c.requires.tally c.requires.there (sym c.get.ensures.value ∙ sym c.copied.ensures ∙ c.in_default.is)

pub overflow_sub-count : goal.overflow_sub-count
overflow_sub-count g c =
    count-pos c.args.lengths.now c.args.lengths.now c.args.key c.requires.tally c.in-Some.count (sym c.get.ensures.value ∙ sym c.copied.ensures ∙ c.in-Some.is)

pub returns-then-count-eq1-clause-lowered : goal.returns-then-count-eq1-clause-lowered
returns-then-count-eq1-clause-lowered g c =
    let count : value_at pair_cmp c.args.lengths.now c.args.key ≡ Some c.in-Some.count = sym c.get.ensures.value ∙ sym c.copied.ensures ∙ c.in-Some.is in
    let low = lowered_by_take c.args.lengths.now c.take.new.self c.args.key c.requires.tally c.in-Some.count count c.if-count-eq1.true c.take.ensures.rest c.take.ensures.ordered in
    (low.tally, low.records)

pub returns-else-count-eq1-clause-lowered : goal.returns-else-count-eq1-clause-lowered
returns-else-count-eq1-clause-lowered g c =
    let n = c.in-Some.count in
    let count : value_at pair_cmp c.args.lengths.now c.args.key ≡ Some n = sym c.get.ensures.value ∙ sym c.copied.ensures ∙ c.in-Some.is in
    let e = c.set.ensures in
    let low = lowered_by_set c.args.lengths.now c.set.new.self c.args.key c.requires.tally n count c.if-count-eq1.false (set_gives c.set.result _ n _ _ count e.written e.absent) e.ordered in
    (low.tally, low.records)

pub returns-then-count-eq1-clause-steps : goal.returns-then-count-eq1-clause-steps
returns-then-count-eq1-clause-steps g c = takes_one_more _ _ _ 1 (takes_one_more _ _ _ 0 (takes_none _) c.get.ensures.step) c.take.ensures.step

pub returns-else-count-eq1-clause-steps : goal.returns-else-count-eq1-clause-steps
returns-else-count-eq1-clause-steps g c = takes_one_more _ _ _ 1 (takes_one_more _ _ _ 0 (takes_none _) c.get.ensures.step) c.set.ensures.step
