use Rattle.std.proofs.Common.{◌≡◌, true, rules}
use Rattle.iv_pair.specs.CoverAlone.{needs_cover_alone}
use Rattle.iv_pair.proofs.CoverLemmas.{rows-alike}
use Rattle.iv_pair.proofs.pair_sweep.needs_cover_alone.Goals as goal

pub returns-in-Intersect-IfHit-clause-alone : goal.returns-in-Intersect-IfHit-clause-alone
returns-in-Intersect-IfHit-clause-alone c = let on : needs_cover_alone c.args.output ≡ true = search rules in λ _. rows-alike c.args.output on

pub returns-in-Subtract-clause-alone : goal.returns-in-Subtract-clause-alone
returns-in-Subtract-clause-alone c = let on : needs_cover_alone c.args.output ≡ true = search rules in λ _. rows-alike c.args.output on
