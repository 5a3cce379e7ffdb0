use Rattle.iv_view.proofs.SummaryLemmas.{IsAsked}
use Rattle.iv_view.proofs.merge.summaries_of.Given as goal

abbrev pub invariant-loop-place : goal.invariant-loop-place
invariant-loop-place l = IsAsked 6 l.columns l.ops l.place l.summaries
