use Rattle.std.proofs.Common.{◌≤◌, drop, vec_capacity}
use Rattle.iv_bytes.proofs.PutLemmas.{Underway}
use Rattle.iv_cover.specs.Results.{results_of}
use Rattle.iv_cover.proofs.summaries.put_results.Given as goal

-- the results of the summaries that are left remain to be put
abbrev pub invariant-loop-asked : goal.invariant-loop-asked
invariant-loop-asked g l = record {
  put : Underway (g.S.Sink.state l.fn.sink) (g.S.Sink.state l.sink)
      (results_of (λ column. g.V.Values.left l.name column l.values) (drop l.asked-index l.summaries)) (results_of (λ column. g.V.Values.left l.name column l.values) l.summaries);
  grown : vec_capacity l.fn.room ≤ vec_capacity l.room;
}
