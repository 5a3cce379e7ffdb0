use Rattle.std.proofs.Common.{◌≡◌, ◌∙◌, [], ◌∷◌, ℕ, List, length, ap, sym, subst, refl, arith}
use Rattle.std.specs.Option.{option_map}
use Rattle.iv_lines.specs.RecordValue.{RecordValue}
use Rattle.iv_lines.specs.declared.interval.Interval.{Interval}
use Rattle.iv_cover.specs.RecordWalks.{ahead_of}
use Rattle.iv_depth.specs.Inside.SequenceEdges.{Gathered}
use Rattle.iv_depth.proofs.GatheredLemmas.{IsTaking, taking-begin, taking-next, taking-all, taking-else}
use Rattle.iv_depth.proofs.edges.SequenceEdges.take_records.Goals as goal

pub loop-record-init : goal.loop-record-init
loop-record-init g c =
    let seq = c.args.seq in
    let old = c.args.self.now in
    let starts = c.self.inside.starts in
    let stops = c.self.inside.stops in
    let left = ap (λ (s : Gathered). s.left) c.self.view_is in
    let no_starts : starts.items ≡ [] = ap (λ (s : Gathered). s.starts) c.self.view_is ∙ c.requires.starts in
    let no_stops : stops.items ≡ [] = ap (λ (s : Gathered). s.stops) c.self.view_is ∙ c.requires.stops in
    record {
      taking = subst (λ (l : List RecordValue). IsTaking seq old.left l starts.items stops.items) (sym left)
          (taking-begin seq old.left starts.items stops.items c.requires.order c.requires.from no_starts no_stops);
      starts = omega (arith, c.self.invariant.0, starts.ok.0, ap (λ (l : List ℕ). length l) no_starts);
      stops = omega (arith, c.self.invariant.1, stops.ok.0, ap (λ (l : List ℕ). length l) no_stops);
    }

pub loop-record-preserved : goal.loop-record-preserved
loop-record-preserved g c =
    let i = c.loop-record.invariant in
    let value = g.W.Record.BedRecord.as_record in
    let r : RecordValue = value c.in-Some.record in
    let records = g.W.RecordWalk.left c.next_of.new.records in
    let one = ap (λ (l : List RecordValue). length l) c.in-Some.ensures.first in
    let left : ahead_of (option_map value c.next_of.new.ahead) records ≡ records = ap (λ o. ahead_of (option_map value o) records) c.next_of.ensures.none in
    let few = ap (λ (l : List RecordValue). length l) left in
    record {
      taking = subst (λ (l : List RecordValue). IsTaking c.args.seq c.args.self.now.left l c.push_reserved.new.self.items c.push_reserved-in-Some.new.self.items) (sym left)
          (taking-next c.args.seq c.args.self.now.left _ records r c.loop-record.self-inside.starts.items c.loop-record.self-inside.stops.items
          c.push_reserved.new.self.items c.push_reserved-in-Some.new.self.items c.interval-interval.result.start c.interval-interval.result.stop c.in-Some.ensures.first
          (sym (ap (λ (j : Interval). j.seq) c.interval-interval.ensures) ∙ c.if-interval-seq.false)
          (ap (λ (j : Interval). j.start) c.interval-interval.ensures) (ap (λ (j : Interval). j.stop) c.interval-interval.ensures)
          c.push_reserved.ensures.items c.push_reserved-in-Some.ensures.items i.taking);
      starts = omega (arith, one, few, i.starts, c.push_reserved.ensures.len, c.push_reserved.ensures.capacity);
      stops = omega (arith, one, few, i.stops, c.push_reserved-in-Some.ensures.len, c.push_reserved-in-Some.ensures.capacity);
    }

pub returns-then-interval-seq : goal.returns-then-interval-seq
returns-then-interval-seq g c =
    let r : RecordValue = g.W.Record.BedRecord.as_record c.in-Some.record in
    let records = g.W.RecordWalk.left c.next_of.new.records in
    let starts = c.loop-record.self-inside.starts.items in
    let stops = c.loop-record.self-inside.stops.items in
    taking-else c.args.seq c.args.self.now (record { left = r ∷ records; starts = starts; stops = stops })
    (subst (λ (l : List RecordValue). IsTaking c.args.seq c.args.self.now.left l starts stops) c.in-Some.ensures.first c.loop-record.invariant.taking)
    r records refl (λ at. c.if-interval-seq.true (ap (λ (j : Interval). j.seq) c.interval-interval.ensures ∙ at))

pub returns : goal.returns
returns g c =
    let value = g.W.Record.BedRecord.as_record in
    let records = g.W.RecordWalk.left c.next_of.new.records in
    let starts = c.loop-record.self-inside.starts.items in
    let stops = c.loop-record.self-inside.stops.items in
    let none : ahead_of (option_map value c.next_of.new.ahead) records ≡ [] = ap (λ o. ahead_of (option_map value o) records) c.next_of.ensures.none ∙ c.in_default.ensures.first.1 in
    taking-all c.args.seq c.args.self.now (record { left = ahead_of (option_map value c.next_of.new.ahead) records; starts = starts; stops = stops })
    (subst (λ (l : List RecordValue). IsTaking c.args.seq c.args.self.now.left l starts stops) (c.in_default.ensures.first.0 ∙ sym none) c.loop-record.invariant.taking)
    none
