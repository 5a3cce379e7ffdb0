use Rattle.std.proofs.Common.{◌∙◌, ℕ, List, refl, sym, ap, subst}
use Rattle.iv_bytes.specs.Sinks.{Takes, FailsIn}
use Rattle.iv_lines.specs.RecordValue.{RecordValue}
use Rattle.iv_pair.specs.PairRows.{pair_rows}
use Rattle.iv_pair.proofs.PairTextLemmas.{put-none, put-more, put-fails, put-ended, puts-some}
use Rattle.iv_pair.proofs.hit_finder.put_by_hits.Goals as goal

pub loop-feature-init : goal.loop-feature-init
loop-feature-init g c = record {
  same = refl;
  put = λ second alike. put-none c.args.output c.args.genome.now second (g.W.RecordWalk.left c.args.records.now) (g.S.Sink.state c.args.sink.now);
}

pub returns-in_err-put_beside-clause-text : goal.returns-in_err-put_beside-clause-text
returns-in_err-put_beside-clause-text g c = λ second alike.
    let a : RecordValue = g.W.Record.BedRecord.as_record c.in-Some.feature in
    let i = c.loop-feature.invariant in
    let rows = ap (λ (l : List RecordValue). pair_rows c.args.output c.args.genome.now a l) i.same ∙ alike c.args.genome.now a c.put_beside.ensures.base in
    let fails = subst (λ (l : List ℕ). FailsIn (g.S.Sink.state c.loop-feature.sink) (g.S.Sink.state c.put_beside.new.sink) l) rows c.in_err-put_beside.ensures.text in
    put-fails c.args.output c.args.genome.now second (g.W.RecordWalk.left c.args.records.now) (g.W.RecordWalk.left c.loop-feature.records) (g.W.RecordWalk.left c.next.new.self) a
    (g.S.Sink.state c.args.sink.now) (g.S.Sink.state c.loop-feature.sink) (g.S.Sink.state c.put_beside.new.sink) c.from_residual.result c.from_residual.ensures.0
    (i.put second alike) c.in-Some.ensures.first fails

pub returns-then-looked-most-clause-text : goal.returns-then-looked-most-clause-text
returns-then-looked-most-clause-text g c = λ second alike.
    let a : RecordValue = g.W.Record.BedRecord.as_record c.in-Some.feature in
    let i = c.loop-feature.invariant in
    let rows = ap (λ (l : List RecordValue). pair_rows c.args.output c.args.genome.now a l) i.same ∙ alike c.args.genome.now a c.put_beside.ensures.base in
    let took = subst (λ (l : List ℕ). Takes (g.S.Sink.state c.loop-feature.sink) (g.S.Sink.state c.put_beside.new.sink) l) rows c.in_ok-put_beside.ensures.text in
    puts-some c.args.output c.args.genome.now second (g.W.RecordWalk.left c.args.records.now) (g.W.RecordWalk.left c.next.new.self) (g.S.Sink.state c.args.sink.now) (g.S.Sink.state c.put_beside.new.sink)
    (put-more c.args.output c.args.genome.now second (g.W.RecordWalk.left c.args.records.now) (g.W.RecordWalk.left c.loop-feature.records) (g.W.RecordWalk.left c.next.new.self) a
    (g.S.Sink.state c.args.sink.now) (g.S.Sink.state c.loop-feature.sink) (g.S.Sink.state c.put_beside.new.sink) (i.put second alike) c.in-Some.ensures.first took)

pub loop-feature-preserved : goal.loop-feature-preserved
loop-feature-preserved g c =
    let a : RecordValue = g.W.Record.BedRecord.as_record c.in-Some.feature in
    let i = c.loop-feature.invariant in
    record {
      same = c.put_beside.ensures.same ∙ i.same;
      put = λ second alike.
          let rows = ap (λ (l : List RecordValue). pair_rows c.args.output c.args.genome.now a l) i.same ∙ alike c.args.genome.now a c.put_beside.ensures.base in
          let took = subst (λ (l : List ℕ). Takes (g.S.Sink.state c.loop-feature.sink) (g.S.Sink.state c.put_beside.new.sink) l) rows c.in_ok-put_beside.ensures.text in
          put-more c.args.output c.args.genome.now second (g.W.RecordWalk.left c.args.records.now) (g.W.RecordWalk.left c.loop-feature.records) (g.W.RecordWalk.left c.next.new.self) a
          (g.S.Sink.state c.args.sink.now) (g.S.Sink.state c.loop-feature.sink) (g.S.Sink.state c.put_beside.new.sink) (i.put second alike) c.in-Some.ensures.first took;
    }

pub returns-clause-text : goal.returns-clause-text
returns-clause-text g c = λ second alike.
    puts-some c.args.output c.args.genome.now second (g.W.RecordWalk.left c.args.records.now) (g.W.RecordWalk.left c.next.new.self) (g.S.Sink.state c.args.sink.now) (g.S.Sink.state c.loop-feature.sink)
    (put-ended c.args.output c.args.genome.now second (g.W.RecordWalk.left c.args.records.now) (g.W.RecordWalk.left c.loop-feature.records) (g.W.RecordWalk.left c.next.new.self)
    (g.S.Sink.state c.args.sink.now) (g.S.Sink.state c.loop-feature.sink) (c.in_default.ensures.first.0 ∙ sym c.in_default.ensures.first.1) (c.loop-feature.invariant.put second alike))
