use Rattle.std.proofs.Common.{sym}
use Rattle.iv_args.proofs.DraftLemmas.{option-taken, value-taken, word-taken}
use Rattle.iv_args.proofs.plan.PlanDraft.take.Goals as goal

pub returns-in_ok-set-in-Some-option-clause-ok : goal.returns-in_ok-set-in-Some-option-clause-ok
returns-in_ok-set-in-Some-option-clause-ok g c =
    option-taken c.args.run c.args.argument.now c.args.self.now c.in-Some-option.option c.args.others.now c.in-Some.value.now c.set.new.self c.in-Some.ensures.value
    c.in-Some-option.ensures c.in_ok-set-in-Some-option.ensures.ok

pub returns-in_ok-keep-in-None-clause-ok : goal.returns-in_ok-keep-in-None-clause-ok
returns-in_ok-keep-in-None-clause-ok g c = rw c.in_ok-keep-in-None.ensures
    (value-taken c.args.run c.args.argument.now c.args.self.now c.args.others.now c.in-Some.value.now c.in-Some.ensures.value c.in-None.ensures (sym c.if-takes_value.ensures))

pub returns-in_ok-keep-in-None-2-clause-ok : goal.returns-in_ok-keep-in-None-2-clause-ok
returns-in_ok-keep-in-None-2-clause-ok g c = rw c.in_ok-keep-in-None-2.ensures
    (word-taken c.args.run c.args.argument.now c.args.self.now c.args.others.now c.in-Some.value.now c.in-Some.ensures.value c.in-None-2.ensures (sym c.if-takes_value.ensures))
