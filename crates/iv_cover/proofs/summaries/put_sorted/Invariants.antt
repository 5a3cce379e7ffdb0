use Rattle.std.proofs.Common.{◌∷◌, drop}
use Rattle.std.specs.Cmp.Lexicographic.{slice_cmp}
use Rattle.std.specs.Ordering.{nat_cmp}
use Rattle.std.specs.List.{join_with_byte}
use Rattle.iv_bytes.proofs.PutLemmas.{Underway}
use Rattle.iv_lines.specs.Bytes.{comma}
use Rattle.iv_lines.specs.Ordered.{InOrder}
use Rattle.iv_cover.specs.Summaries.{different}
use Rattle.iv_cover.specs.Inside.Results.{after_commas}
use Rattle.iv_cover.proofs.DistinctLemmas.{begun}
use Rattle.iv_cover.proofs.summaries.put_sorted.Given as goal

-- what differs from the last value remains
abbrev pub invariant-loop-value : goal.invariant-loop-value
invariant-loop-value g l = record {
  rise : InOrder (slice_cmp nat_cmp) (l.last ∷ drop l.value-index l.others);
  put : Underway (g.S.Sink.state l.fn.sink) (g.S.Sink.state l.sink)
      (after_commas (begun l.last (drop l.value-index l.others))) (join_with_byte comma (different l.values));
}
