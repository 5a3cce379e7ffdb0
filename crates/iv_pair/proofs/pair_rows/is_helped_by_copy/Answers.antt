use Rattle.std.proofs.Common.{◌≡◌, sym, subst, rules}
use Rattle.iv_pair.specs.Inside.PairTexts.{NeedsIntervalsAlone}
use Rattle.iv_pair.specs.declared.intersect.IntersectOutput.TheVariants.{Count}
use Rattle.iv_pair.specs.declared.pair_rows.PairOutput.TheVariants.{Intersect}
use Rattle.iv_pair.proofs.CopyLemmas.{counts-intervals}
use Rattle.iv_pair.proofs.pair_rows.is_helped_by_copy.Goals as goal

pub returns-in-Intersect-Count : goal.returns-in-Intersect-Count
returns-in-Intersect-Count c =
    let is : c.args.output ≡ Intersect Count = search rules in
    λ helped. subst NeedsIntervalsAlone (sym is) counts-intervals
