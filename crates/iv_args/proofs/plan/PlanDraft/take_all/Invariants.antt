use Rattle.std.proofs.Common.{◌≡◌, map, length}
use Rattle.iv_args.specs.Inside.Drafts.{drafted}
use Rattle.iv_args.proofs.plan.PlanDraft.take_all.Given as goal

abbrev pub invariant-arguments : goal.invariant-arguments
invariant-arguments g l =
    drafted l.run (map (λ argument. argument.now) l.fn.arguments) l.fn.self ≡ drafted l.run (map (λ argument. argument.now) l.rest) l.self

abbrev pub decreases-arguments : goal.decreases-arguments
decreases-arguments g l = length l.rest
