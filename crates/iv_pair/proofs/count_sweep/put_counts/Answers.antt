use Rattle.std.proofs.Common.{◌≡◌, ◌+◌, ◌≤◌, ◌∷◌, ℕ, List, length, subst, arith}
use Rattle.std.specs.Prelude.{count_by}
use Rattle.std.proofs.lemmas.List.Elements.{All-head}
use Rattle.std.proofs.lemmas.List.Sums.{count_by-le-length}
use Rattle.iv_bytes.specs.Sinks.{Takes, FailsIn}
use Rattle.iv_bytes.proofs.PutLemmas.{Underway-begin, Underway-more, Underway-fails, Underway-ends, Puts-err}
use Rattle.iv_lines.specs.Ordered.{AreInOrder}
use Rattle.iv_lines.specs.RecordValue.{RecordValue}
use Rattle.iv_pair.specs.Hits.{hits_of}
use Rattle.iv_pair.specs.PairRows.{pair_text}
use Rattle.iv_pair.specs.declared.intersect.IntersectOutput.TheVariants.{Count}
use Rattle.iv_pair.specs.declared.pair_rows.PairOutput.TheVariants.{Intersect}
use Rattle.iv_pair.specs.Inside.Counts.{begins_before, ends_by, place_before}
use Rattle.iv_pair.proofs.CountLemmas.{AreStartsOf-rows, begun-later, ended-later, hits-between, passes-all, places-more}
use Rattle.iv_pair.proofs.count_sweep.put_counts.Goals as goal

pub loop-feature-init : goal.loop-feature-init
loop-feature-init g c = record {
  starts_are = AreStartsOf-rows _ _ c.places-places.ensures.spots c.places-places.ensures.some c.requires.second;
  order = c.requires.first;
  begun = λ k d lt. omega arith;
  ended = λ k d lt. omega arith;
  put = λ other alike. Underway-begin _ _;
}

pub pass_ends-ended-requires-clause-from : goal.pass_ends-ended-requires-clause-from
pass_ends-ended-requires-clause-from g c =
    let a : RecordValue = g.W.Record.BedRecord.as_record c.in-Some.feature in
    let all = c.args.second.now in
    let rest = g.W.RecordWalk.left c.next.new.self in
    let steps : g.W.RecordWalk.left c.loop-feature.first ≡ a ∷ rest = c.in-Some.ensures.first in
    let head = All-head (λ (y : RecordValue). c.loop-feature.ended ≤ count_by (ends_by y.seq y.start) all) a rest (rw steps at c.loop-feature.invariant.ended) in
    rw (c.seq-seq.ensures, c.start-start.ensures) (omega (arith, head, c.requires.ends.counts a.seq a.start))

pub pass_starts-begun-requires-clause-ordered : goal.pass_starts-begun-requires-clause-ordered
pass_starts-begun-requires-clause-ordered g c = c.loop-feature.invariant.starts_are.ascend

pub pass_starts-begun-requires-clause-from : goal.pass_starts-begun-requires-clause-from
pass_starts-begun-requires-clause-from g c =
    let a : RecordValue = g.W.Record.BedRecord.as_record c.in-Some.feature in
    let all = c.args.second.now in
    let rest = g.W.RecordWalk.left c.next.new.self in
    let steps : g.W.RecordWalk.left c.loop-feature.first ≡ a ∷ rest = c.in-Some.ensures.first in
    let head = All-head (λ (y : RecordValue). c.loop-feature.begun ≤ count_by (begins_before y.seq y.start) all) a rest (rw steps at c.loop-feature.invariant.begun) in
    rw (c.seq-seq.ensures, c.start-start.ensures) (omega (arith, head, c.loop-feature.invariant.starts_are.counts a.seq a.start))

pub count_starts-reached-requires-clause-ordered : goal.count_starts-reached-requires-clause-ordered
count_starts-reached-requires-clause-ordered g c = c.loop-feature.invariant.starts_are.ascend

pub count_starts-reached-requires-clause-from : goal.count_starts-reached-requires-clause-from
count_starts-reached-requires-clause-from g c =
    let more = places-more c.seq-seq.result c.start-start.result c.stop.result c.places-places.result.now (omega (arith, c.stop.ensures.some, c.start-start.ensures)) in
    omega (arith, c.pass_starts-begun.ensures.few, more)

pub overflow_sub-reached : goal.overflow_sub-reached
overflow_sub-reached g c =
    let a : RecordValue = g.W.Record.BedRecord.as_record c.in-Some.feature in
    let all = c.args.second.now in
    let number : length (hits_of all a) + c.pass_ends-ended.result ≡ c.count_starts-reached.result =
    hits-between a all c.args.ends.now c.places-places.result.now c.seq-seq.result c.start-start.result c.stop.result c.pass_ends-ended.result c.count_starts-reached.result
    c.requires.ends c.loop-feature.invariant.starts_are (omega (arith, c.stop.ensures.some, c.stop.ensures.value)) c.seq-seq.ensures c.start-start.ensures c.stop.ensures.value c.pass_ends-ended.ensures c.count_starts-reached.ensures in
    omega (arith, number)

pub loop-feature-preserved : goal.loop-feature-preserved
loop-feature-preserved g c =
    let a : RecordValue = g.W.Record.BedRecord.as_record c.in-Some.feature in
    let all = c.args.second.now in
    let rest = g.W.RecordWalk.left c.next.new.self in
    let steps : g.W.RecordWalk.left c.loop-feature.first ≡ a ∷ rest = c.in-Some.ensures.first in
    let i = c.loop-feature.invariant in
    let number : length (hits_of all a) + c.pass_ends-ended.result ≡ c.count_starts-reached.result =
    hits-between a all c.args.ends.now c.places-places.result.now c.seq-seq.result c.start-start.result c.stop.result c.pass_ends-ended.result c.count_starts-reached.result
    c.requires.ends i.starts_are (omega (arith, c.stop.ensures.some, c.stop.ensures.value)) c.seq-seq.ensures c.start-start.ensures c.stop.ensures.value c.pass_ends-ended.ensures c.count_starts-reached.ensures in
    let order : AreInOrder (a ∷ rest) = subst AreInOrder steps i.order in
    let places = c.places-places.result.now in
    let many = count_by (place_before c.seq-seq.result c.start-start.result) places in
    let begun : c.pass_starts-begun.result ≡ many =
    passes-all c.pass_starts-begun.result many (length places) c.pass_starts-begun.ensures.few c.pass_starts-begun.ensures.all
    (count_by-le-length (place_before c.seq-seq.result c.start-start.result) places) in
    record {
      starts_are = i.starts_are;
      order = order.1;
      begun = begun-later a rest all places c.seq-seq.result c.start-start.result c.pass_starts-begun.result order i.starts_are c.seq-seq.ensures c.start-start.ensures begun;
      ended = ended-later a rest all c.args.ends.now c.seq-seq.result c.start-start.result c.pass_ends-ended.result order c.requires.ends c.seq-seq.ensures c.start-start.ensures
          c.pass_ends-ended.ensures;
      put = λ other alike. Underway-more _ _ _ _ _ _ (rw steps at i.put other alike)
          (subst (λ (l : List ℕ). Takes (g.S.Sink.state c.loop-feature.sink) (g.S.Sink.state c.put_count.new.sink) l) (alike c.args.genome.now a (omega (arith, c.stop.ensures.some, c.stop.ensures.value)))
          (c.in_ok-put_count.ensures (hits_of all a) (omega (arith, number))));
    }

pub returns-in_err-put_count : goal.returns-in_err-put_count
returns-in_err-put_count g c = λ other alike.
    let a : RecordValue = g.W.Record.BedRecord.as_record c.in-Some.feature in
    let all = c.args.second.now in
    let rest = g.W.RecordWalk.left c.next.new.self in
    let steps : g.W.RecordWalk.left c.loop-feature.first ≡ a ∷ rest = c.in-Some.ensures.first in
    let number : length (hits_of all a) + c.pass_ends-ended.result ≡ c.count_starts-reached.result =
    hits-between a all c.args.ends.now c.places-places.result.now c.seq-seq.result c.start-start.result c.stop.result c.pass_ends-ended.result c.count_starts-reached.result
    c.requires.ends c.loop-feature.invariant.starts_are (omega (arith, c.stop.ensures.some, c.stop.ensures.value)) c.seq-seq.ensures c.start-start.ensures c.stop.ensures.value c.pass_ends-ended.ensures c.count_starts-reached.ensures in
    Puts-err _ _ c.from_residual.result (pair_text (Intersect Count) c.args.genome.now (g.W.RecordWalk.left c.args.first) other) c.from_residual.ensures.0
    (Underway-fails _ _ _ _ _ _ (rw steps at c.loop-feature.invariant.put other alike)
    (subst (λ (l : List ℕ). FailsIn (g.S.Sink.state c.loop-feature.sink) (g.S.Sink.state c.put_count.new.sink) l) (alike c.args.genome.now a (omega (arith, c.stop.ensures.some, c.stop.ensures.value)))
    (c.in_err-put_count.ensures (hits_of all a) (omega (arith, number)))))

pub returns : goal.returns
returns g c = λ other alike. Underway-ends _ _ _ (rw c.in_default.ensures.first.0 at c.loop-feature.invariant.put other alike)
