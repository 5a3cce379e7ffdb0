use Rattle.std.proofs.Common.{◌-◌, length, subst, sym, refl}
use Rattle.iv_lines.specs.RecordValue.{RecordValue}
use Rattle.iv_text.specs.Inside.FastLine.{IsFastLine}
use Rattle.iv_text.proofs.FastLineLemmas.{fast-line, plain-begins, rest-whole}
use Rattle.iv_text.proofs.record_reader.RecordReader.read_fast.Goals as goal

pub of_rest-record-requires-clause-whole : goal.of_rest-record-requires-clause-whole
of_rest-record-requires-clause-whole g c =
    rest-whole c.args.width c.in_ok-interval.after.now c.in_ok-rest.rest.now c.in_ok-rest.end.now c.requires.1 c.in_ok-rest.ensures

pub of_rest-record-requires-clause-plain : goal.of_rest-record-requires-clause-plain
of_rest-record-requires-clause-plain g c = plain-begins c.args.width c.in_ok-interval.after.now c.in_ok-rest.rest.now c.in_ok-rest.end.now c.in_ok-rest.ensures

pub of_rest-record-requires-clause-none : goal.of_rest-record-requires-clause-none
of_rest-record-requires-clause-none g c = c.in_ok-rest.ensures.1

pub returns : goal.returns
returns g c =
    let text = c.args.text.now in
    let next = c.in_ok-next.next.now in
    subst (λ (r : RecordValue). IsFastLine c.args.self.now c.args.width text r (length text - length next)) (sym c.of_rest-record.ensures)
    (fast-line c.args.self.now c.args.width text next c.in_ok-interval.interval (length text - length next) c.in_ok-interval.after.now c.in_ok-rest.rest.now c.in_ok-rest.end.now
    c.requires.1 c.in_ok-interval.ensures c.in_ok-rest.ensures c.in_ok-next.ensures refl)
